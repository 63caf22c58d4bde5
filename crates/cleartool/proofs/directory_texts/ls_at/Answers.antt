-- What is known of the directory that was found is told of the path.
use Rattle.std.proofs.Common.{Ok, ap, sym, ◌∙◌, arith}
use Rattle.std.proofs.lemmas.Grind.{common_steps}
use Rattle.legal_history.specs.Queries.DirectoryTexts.{ls_text}
use Rattle.cleartool.proofs.Refused.{no_directory}
use Rattle.cleartool.proofs.directory_texts.ls_at.Goals as goal

pub returns-in_err-element : goal.returns-in_err-element
returns-in_err-element c =
    grind (
      arith,
      common_steps,
      no_directory c.args.rows.now c.args.view.now c.args.path.now c.in_err-element.field-0.0
          (ls_text c.args.rows.now c.args.view.now c.args.path.now) (c.in_err-element.ensures),
    )

pub returns : goal.returns
returns c =
    let v = c.args.view.now in
    let path = c.args.path.now in
    let found = c.in_ok-element.ensures in
    found.1 (ls_text c.args.rows.now v path)
    ∙ ap Ok (sym (c.in_ok-ls_text.ensures found.0))

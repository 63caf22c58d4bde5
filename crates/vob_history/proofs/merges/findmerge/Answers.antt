-- The tests are those of the model, in its order.
use Rattle.std.proofs.Common.{Ok, ap, sym, ◌∙◌, arith}
use Rattle.std.proofs.lemmas.Grind.{common_steps}
use Rattle.vob_history.proofs.MergeTests.{answered, no_branch, unselected}
use Rattle.vob_history.proofs.merges.findmerge.Goals as goal

pub returns-in_err-find_selected : goal.returns-in_err-find_selected
returns-in_err-find_selected c =
    grind (
      arith,
      common_steps,
      unselected c.args.rows.now c.args.view.now c.args.path.now c.args.branch.now
          c.in_err-find_selected.field-0.0 (c.in_err-find_selected.ensures),
    )

pub returns-in_err-needs_branch : goal.returns-in_err-needs_branch
returns-in_err-needs_branch c =
    let name = c.args.branch.now in
    let refusal = c.in_err-needs_branch.field-0.0 in
    grind (
      arith,
      common_steps,
      no_branch c.args.rows.now c.args.view.now c.args.path.now name c.in_ok-find_selected.field-0 refusal
          (c.in_ok-find_selected.ensures) c.in_err-needs_branch.ensures,
    )

pub returns : goal.returns
returns c =
    let v = c.args.view.now in
    let path = c.args.path.now in
    let name = c.args.branch.now in
    answered c.args.rows.now v path name c.in_ok-find_selected.field-0 (c.in_ok-find_selected.ensures)
    c.in_ok-needs_branch.ensures
    ∙ ap Ok (sym c.in_ok-findmerge_text.ensures)

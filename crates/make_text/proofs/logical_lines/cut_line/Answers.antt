use Rattle.std.proofs.Common.{refl, ◌∷◌, ◌+◌, ◌∙◌, sym, ap, take, arith, length-drop}
use Rattle.std.proofs.lemmas.List.{take_rest}
use Rattle.std.specs.List.{slice_split}
use Rattle.cc_names.specs.Cuts.{is_newline}
use Rattle.make_text.proofs.LineLemmas.{split_at, split_none}
use Rattle.make_text.proofs.logical_lines.cut_line.Goals as goal

pub returns-in-Some : goal.returns-in-Some
returns-in-Some c =
    let text = c.args.text.now in
    let rest = take_rest text (c.in-Some.end + 1) in (
      split_at is_newline text c.in-Some.end (sym c.in-Some.ensures.place)
          ∙ ap (λ v. take c.in-Some.end text ∷ slice_split is_newline v) (sym rest),
      rw rest (omega (arith, length-drop (c.in-Some.end + 1) text, c.in-Some.ensures.within)),
    )

pub returns-in-None : goal.returns-in-None
returns-in-None c = (split_none is_newline c.args.text.now (sym c.in-None.ensures.place), refl)

use Rattle.std.proofs.Common.{◌+◌, ◌-◌, ◌∷◌, ℕ, List, take, ap, sym, ◌∙◌}
use Rattle.std.specs.List.{slice_split}
use Rattle.cc_names.specs.Cuts.{is_newline}
use Rattle.cc_names.proofs.Splits.{slice_split-at, slice_split-none}
use Rattle.cc_names.proofs.Common.{rest_is_whole}
use Rattle.build_script.proofs.scripts.split_line.Goals as goal

pub returns-in-Some-clause-pieces : goal.returns-in-Some-clause-pieces
returns-in-Some-clause-pieces c =
    slice_split-at is_newline 0 c.args.text.now c.in-Some.index (sym c.first_newline.ensures.place ∙ c.in-Some.is)
    ∙ ap (λ (rest : List ℕ). take c.in-Some.index c.args.text.now ∷ slice_split is_newline rest)
    (sym (rest_is_whole (c.in-Some.index + 1) c.args.text.now))

pub returns-in-None-clause-pieces : goal.returns-in-None-clause-pieces
returns-in-None-clause-pieces c = slice_split-none is_newline c.args.text.now (sym c.first_newline.ensures.place ∙ c.in-None.is)

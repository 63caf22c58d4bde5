-- A worked label, put, moved, taken and put again, checked by computation.
use Rattle.std.proofs.Common.{◌≡◌, ℕ, Some, None, List, [], ◌∷◌, refl}
use Rattle.std.specs.Prelude.{codes}
use Rattle.cc_names.specs.Labels.{labels_of_first_rows, holder}
use Rattle.cc_names.specs.declared.changes.LabelChange.{LabelChange}
use Rattle.cc_names.specs.declared.changes.LabelChange.TheVariants.{Put, Taken}

abbrev rel : List ℕ
rel = codes "REL"

-- on element 6: put on row 8, moved to row 17, taken, and put on row 8 again
abbrev moved : List LabelChange
moved = Put 30 rel 6 8 ∷ Taken 25 rel 6 ∷ Put 22 (codes "OTHER") 6 6 ∷ Put 20 rel 6 17 ∷ Put 12 rel 6 8 ∷ []

holds_now : holder moved rel 6 ≡ Some 8
holds_now = refl

held_when_moved : holder (labels_of_first_rows 21 moved) rel 6 ≡ Some 17
held_when_moved = refl

held_before : holder (labels_of_first_rows 20 moved) rel 6 ≡ Some 8
held_before = refl

taken : holder (labels_of_first_rows 26 moved) rel 6 ≡ None
taken = refl

not_yet_put : holder (labels_of_first_rows 12 moved) rel 6 ≡ None
not_yet_put = refl

on_no_other_element : holder moved rel 3 ≡ None
on_no_other_element = refl

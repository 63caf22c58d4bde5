-- The labels A and C of an element that was ever given the labels A, B and C, where B was taken off.
use Rattle.std.proofs.Common.{◌≡◌, refl, ℕ, true, false, Option, List, [], ◌∷◌}
use Rattle.std.specs.Prelude.{codes}
use Rattle.std.specs.List.{list_all, list_any}
use Rattle.cc_names.specs.Labels.{holder}
use Rattle.cc_names.specs.declared.changes.LabelChange.{LabelChange}
use Rattle.cc_names.specs.declared.changes.LabelChange.TheVariants.{Put, Taken}
use Rattle.label_book.specs.Standings.{Placement, is_placement, placements, stands}

abbrev names : List (List ℕ)
names = codes "A" ∷ codes "B" ∷ codes "C" ∷ codes "D" ∷ []

-- the newest change first: A was moved from 11 to 12 of element 1, and D is on element 2
abbrev changes : List LabelChange
changes = Put 9 (codes "D") 2 21 ∷ Put 8 (codes "A") 1 12 ∷ Taken 7 (codes "B") 1 ∷ Put 6 (codes "C") 1 11
    ∷ Put 5 (codes "B") 1 11 ∷ Put 4 (codes "A") 1 11 ∷ []

abbrev holder_of : List ℕ → Option ℕ
holder_of l = holder changes l 1

abbrev found : List Placement
found = (codes "A", 12) ∷ (codes "C", 11) ∷ []

those_that_stand : placements names holder_of (0 ∷ 1 ∷ 2 ∷ []) ≡ found
those_that_stand = refl

a_place_beyond_the_names : placements names holder_of (4 ∷ []) ≡ []
a_place_beyond_the_names = refl

each_stands : list_all (stands holder_of) found ≡ true
each_stands = refl

where_it_stood_before : stands holder_of (codes "A", 11) ≡ false
where_it_stood_before = refl

what_was_taken_off : stands holder_of (codes "B", 11) ≡ false
what_was_taken_off = refl

it_is_found : list_any (is_placement (codes "C") 11) found ≡ true
it_is_found = refl

on_another_version : list_any (is_placement (codes "C") 12) found ≡ false
on_another_version = refl

-- The labels on the versions of an element, where A stands on version 12, and C, B and again C on version 11.
use Rattle.std.proofs.Common.{◌≡◌, refl, List, [], ◌∷◌}
use Rattle.std.specs.Prelude.{codes}
use Rattle.label_book.specs.Standings.{Placement}
use Rattle.vob_history.specs.LabelSets.{with_standing}

abbrev standing : List Placement
standing = (codes "A", 12) ∷ (codes "C", 11) ∷ (codes "B", 11) ∷ (codes "C", 11) ∷ []

in_byte_order_and_once : with_standing 11 standing [] ≡ codes "B" ∷ codes "C" ∷ []
in_byte_order_and_once = refl

one_alone : with_standing 12 standing [] ≡ codes "A" ∷ []
one_alone = refl

none_there : with_standing 13 standing [] ≡ []
none_there = refl

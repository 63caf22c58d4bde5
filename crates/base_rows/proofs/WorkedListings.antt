-- What versions give together, and bounds of what is left, on small lists.
use Rattle.std.proofs.Common.{◌≡◌, refl, Some, None, [], ◌∷◌}
use Rattle.base_rows.specs.Listings.{greater, version_at}
use Rattle.base_rows.specs.ObjectWalks.{above, above_entries}

-- of two versions the greater counts, and one alone
the_greater : greater (Some 4) (Some 7) ≡ Some 7
the_greater = refl

one_alone : greater None (Some 7) ≡ Some 7
one_alone = refl

-- a version of another element is none of this one
its_own : version_at 3 9 (Some (record { element = 3; branch = 3; number = 2 })) ≡ Some 9
its_own = refl

of_another : version_at 4 9 (Some (record { element = 3; branch = 3; number = 2 })) ≡ None
of_another = refl

-- one more than the greatest number
above_some : above (5 ∷ 12 ∷ 8 ∷ []) ≡ 13
above_some = refl

above_none : above [] ≡ 0
above_none = refl

above_rows : above_entries (record { path = []; row = 6 } ∷ record { path = []; row = 2 } ∷ []) ≡ 7
above_rows = refl

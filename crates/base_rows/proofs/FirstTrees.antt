-- What the first rows of a base made of the trees of versions, by a row that is among them or after.
use Rattle.std.proofs.Common.{◌≡◌, ℕ, ◌<◌, ◌≤◌, None, List, [], ◌∷◌, refl, arith}
use Rattle.std.proofs.lemmas.Bool.Decides.{nat_tests}
use Rattle.cc_names.specs.Versions.{change_at, of_first_rows}
use Rattle.cc_names.specs.declared.changes.TreeChange.{TreeChange}

-- a row that is no number of the first rows made none of their changes
pub none_behind : (t r : ℕ) (changes : List TreeChange) → t ≤ r → change_at (of_first_rows t changes) r ≡ None
none_behind t r [] behind = refl
none_behind t r (change ∷ older) behind = grind (arith, nat_tests, none_behind t r older behind)

-- one of the first rows made what it made of all
pub change_of_first : (t r : ℕ) (changes : List TreeChange) → r < t → change_at (of_first_rows t changes) r ≡ change_at changes r
change_of_first t r [] within = refl
change_of_first t r (change ∷ older) within = grind (arith, nat_tests, change_of_first t r older within)

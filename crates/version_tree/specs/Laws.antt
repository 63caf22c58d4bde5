-- The laws on versions, and words for them. Each law is promised by a function of `laws`.
use Rattle.std.specs.Prelude.{◌≡◌, ℕ, zero, suc, ◌<◌, ◌≤◌, Some, List, [], ◌∷◌, map, length}
use Rattle.cc_names.specs.Versions.{row_of_change, of_first_rows, change_at, versions_on, number_of_version, version_id}
use Rattle.cc_names.specs.Falling.{IsAbove}
use Rattle.cc_names.specs.declared.changes.TreeChange.{TreeChange}
use Rattle.cc_names.specs.declared.changes.VersionId.{VersionId}

-- the numbers below a number, the greatest first
abbrev pub numbers_below : ℕ → List ℕ
numbers_below zero = []
numbers_below (suc n) = n ∷ numbers_below n

-- A change does nothing to what the first rows made, where its own row is not among them. So no add changes an answer
-- at a smaller number of rows.
abbrev pub OlderRowsStay : Type 0
OlderRowsStay = (rows : ℕ) (change : TreeChange) (older : List TreeChange)
    → rows ≤ row_of_change change
    → of_first_rows rows (change ∷ older) ≡ of_first_rows rows older

-- The numbers of the versions on a branch count from 0 without a gap, whatever the order in which branches grow.
abbrev pub NumbersHaveNoGap : Type 0
NumbersHaveNoGap = (changes : List TreeChange) (branch : ℕ)
    → map number_of_version (versions_on changes branch)
    ≡ numbers_below (length (versions_on changes branch))

-- What a row made is changed by no later change. So kinds, origins, names and branches stay as they are.
abbrev pub WhatWasMadeStaysMade : Type 0
WhatWasMadeStaysMade = (change : TreeChange) (older : List TreeChange) (row : ℕ)
    → row < row_of_change change
    → change_at (change ∷ older) row ≡ change_at older row

-- The same law, its part *placed*: where a version stands is changed by no later change either. So version ids stay as they are.
abbrev pub WhatWasMadeStaysPlaced : Type 0
WhatWasMadeStaysPlaced = (change : TreeChange) (older : List TreeChange) (row : ℕ) (at : VersionId)
    → IsAbove (row_of_change change) (map row_of_change older)
    → version_id older row ≡ Some at
    → version_id (change ∷ older) row ≡ Some at

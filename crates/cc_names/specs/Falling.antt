-- Rows that fall, as in a list with the newest first.
use Rattle.std.specs.Prelude.{ℕ, ◌<◌, List, [], ◌∷◌}

-- a row is above all of these
abbrev pub IsAbove : ℕ → List ℕ → Type 0
IsAbove row [] = Unit {0}
IsAbove row (older ∷ rows) = (older < row) × IsAbove row rows

-- each row is above all after it
abbrev pub Falls : List ℕ → Type 0
Falls [] = Unit {0}
Falls (row ∷ older) = IsAbove row older × Falls older

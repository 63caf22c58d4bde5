-- Bounds by which it is known that a walk over what an object rests on ends: it goes from the newest object on.
use Rattle.std.specs.Prelude.{ℕ, suc, max, List, [], ◌∷◌}
use Rattle.cc_names.specs.declared.rows.ReadOf.{ReadOf}

-- a number above all of some numbers, the least one
abbrev pub above : List ℕ → ℕ
above [] = 0
above (n ∷ ns) = max (suc n) (above ns)

-- a number above all rows of some entries, the least one
abbrev pub above_entries : List ReadOf → ℕ
above_entries [] = 0
above_entries (entry ∷ entries) = max (suc entry.row) (above_entries entries)

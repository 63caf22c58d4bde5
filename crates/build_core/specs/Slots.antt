-- A table by number, kept as one slot for each number.
use Rattle.std.specs.Prelude.{ℕ, zero, suc, ◌+◌, Option, Some, None, List, [], ◌∷◌}

-- the filled slots of a list with their numbers, the first slot numbered k
abbrev pub numbered_slots : {A : Type 0} → ℕ → List (Option A) → List (ℕ × A)
numbered_slots k [] = []
numbered_slots k (None ∷ slots) = numbered_slots (k + 1) slots
numbered_slots k (Some a ∷ slots) = (k, a) ∷ numbered_slots (k + 1) slots

-- what a slot holds, counted from 0; nothing past the last
abbrev pub held_in : {A : Type 0} → List (Option A) → ℕ → Option A
held_in [] n = None
held_in (slot ∷ slots) zero = slot
held_in (slot ∷ slots) (suc n) = held_in slots n

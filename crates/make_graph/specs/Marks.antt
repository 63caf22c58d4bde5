-- Marks of units by their numbers.
use Rattle.std.specs.Prelude.{◌≡◌, ◌<◌, ℕ, true, nat_lt, ◌||◌, ◌&&◌, Bool, List}
use Rattle.make_graph.specs.Waits.{is_in, is_marked}

-- marks were added for those of these units that are below a number
abbrev pub AddsMarks : ℕ → List ℕ → List Bool → List Bool → Type 0
AddsMarks below numbers old new = (n : ℕ) → is_marked new n ≡ (is_marked old n || (nat_lt n below && is_in numbers n))

-- those of these numbers that are below one are below the end too
abbrev pub IsEndBelow : ℕ → List ℕ → ℕ → Type 0
IsEndBelow below numbers end = (n : ℕ) → n < below → is_in numbers n ≡ true → n < end

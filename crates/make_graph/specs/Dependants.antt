-- The dependants of units, named one after the other.
use Rattle.std.specs.Prelude.{◌≡◌, ◌-◌, ◌<◌, ℕ, true, false, Bool, List, [], ◌∷◌, ◌++◌, length, slice_get, slice_index_or}
use Rattle.cc_names.specs.Versions.{is_number}

-- whether a number is the last of these
abbrev pub is_last : ℕ → List ℕ → Bool
is_last n numbers = is_number n (slice_get numbers (length numbers - 1))

-- these numbers, and after them another, unless it is their last already
abbrev pub with_last : ℕ → List ℕ → List ℕ
with_last n numbers = elim (is_last n numbers) [ true ↦ numbers | false ↦ numbers ++ n ∷ [] ]

-- the same where a test says so
abbrev pub named_if : Bool → ℕ → List ℕ → List ℕ
named_if true n numbers = with_last n numbers
named_if false n numbers = numbers

-- each list whose place has a test has this number at its end, and the others are as they were
pub record NamesDependant (test : ℕ → Bool) (n : ℕ) (old new : List (List ℕ)) : Type 0 where
  pub size : length new ≡ length old
  pub lists : (m : ℕ) → m < length old → slice_index_or new m [] ≡ named_if (test m) n (slice_index_or old m [])

-- Numbers that are given to paths one after the other.
use Rattle.std.specs.Prelude.{ℕ, Option, Some, None, List, fold, if◌then◌else◌}
use Rattle.std.specs.Str.{bytes_eq}
use Rattle.make_grammar.specs.Numbers.{number_from}

-- the number that a path had, else this one where it is the path that gets it
abbrev pub with_number : ℕ → List ℕ → List ℕ → Option ℕ → Option ℕ
with_number number path other (Some had) = Some had
with_number number path other None = if bytes_eq other path then Some number else None

-- the number of a path where paths got this one
abbrev pub with_numbers : ℕ → List (List ℕ) → List ℕ → Option ℕ → Option ℕ
with_numbers number paths other had = fold (λ so_far path. with_number number path other so_far) had paths

-- the number that a path had, else the first of those that make it, counted from n on
abbrev pub number_or : {A : Type 0} → (A → List (List ℕ)) → ℕ → List ℕ → List A → Option ℕ → Option ℕ
number_or targets n path items (Some had) = Some had
number_or targets n path items None = number_from targets n path items

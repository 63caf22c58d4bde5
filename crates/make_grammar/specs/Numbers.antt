-- What makes a path, by its number.
use Rattle.std.specs.Prelude.{ℕ, ◌+◌, true, false, Option, Some, None, List, [], ◌∷◌}
use Rattle.make_grammar.specs.Macros.{is_among}

-- the number of the first that has this target, counted from n on
abbrev pub number_from : {A : Type 0} → (A → List (List ℕ)) → ℕ → List ℕ → List A → Option ℕ
number_from targets n path [] = None
number_from targets n path (x ∷ xs) = elim (is_among (targets x) path) [
  | true ↦ Some n
  | false ↦
      number_from targets (n + 1) path xs
]

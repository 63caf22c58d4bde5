-- All that rules are made of, by the rule lines that are joined to them.
use Rattle.std.specs.Prelude.{◌≡◌, ℕ, Bool, true, Option, Some, None, List, [], fold, slice_get}
use Rattle.make_grammar.specs.Contents.{RuleLine}
use Rattle.make_grammar.specs.WordPaths.{with_path_once}

-- the prerequisites of a line, if there is one
abbrev pub prerequisites_in : Option RuleLine → List (List ℕ)
prerequisites_in None = []
prerequisites_in (Some line) = line.prerequisites

-- the prerequisites of the line of this number
abbrev pub prerequisites_at : List RuleLine → ℕ → List (List ℕ)
prerequisites_at lines n = prerequisites_in (slice_get lines n)

-- the prerequisites of each line that is marked are among the paths
abbrev pub HasPut : List RuleLine → List Bool → List (List ℕ) → Type 0
HasPut lines marks paths = (n : ℕ) → slice_get marks n ≡ Some true → fold with_path_once paths (prerequisites_at lines n) ≡ paths

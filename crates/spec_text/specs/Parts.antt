-- What is left of bytes that separators part.
use Rattle.std.specs.Prelude.{ℕ, ◌==◌, Option, Some, None, List, []}
use Rattle.std.specs.List.{slice_split}

-- the parts of what is left of bytes between separators, each the byte `at`; none where nothing is left
abbrev pub parts_left : ℕ → Option (List ℕ) → List (List ℕ)
parts_left at None = []
parts_left at (Some bytes) = slice_split (λ b. b == at) bytes

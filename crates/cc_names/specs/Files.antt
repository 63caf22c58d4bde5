-- The files that something reads.
use Rattle.std.specs.Prelude.{ℕ, Option, List}

-- the text that stands at each path, if there is one
abbrev pub Files : Type 0
Files = List ℕ → Option (List ℕ)

-- How a rule is read word by word.
use Rattle.std.proofs.Common.{ℕ, Option, Some, None, List, ◌++◌}

-- paths that were read before those that follow
abbrev pub paths_onto : List (List ℕ) → Option (List (List ℕ)) → Option (List (List ℕ))
paths_onto read None = None
paths_onto read (Some more) = Some (read ++ more)

-- The lines of a description.
use Rattle.std.specs.Prelude.{ℕ, List, ◌++◌, codes}
use Rattle.legal_history.specs.Queries.VersionNames.{line}

-- the line of a label
abbrev pub label_line : List ℕ → List ℕ
label_line label = line (codes "label " ++ label)

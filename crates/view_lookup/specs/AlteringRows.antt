-- Which row of a branch tells of a name in the catalog of a version.
use Rattle.std.specs.Prelude.{ℕ, Option, List}
use Rattle.cc_names.specs.Last.{Sets, only_if, last}
use Rattle.base_model.specs.Rows.{Base, size}
use Rattle.base_rows.specs.Changed.{alters}

-- the newest version of the branch that alters the name
abbrev pub altered_by : ℕ → List ℕ → Base → Option ℕ
altered_by branch name b = last (λ older row. only_if (alters branch name older row.deed) (Sets (size older))) b

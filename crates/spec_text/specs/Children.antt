-- One step from a branch to one that leaves it.
use Rattle.std.specs.Prelude.{ℕ, Option, List}
use Rattle.std.specs.Option.{option_and_then}
use Rattle.cc_names.specs.Branches.{branch_named, if_above}
use Rattle.cc_names.specs.declared.changes.TreeChange.{TreeChange}

-- the element's branch of a name, where it leaves this branch
abbrev pub child : List TreeChange → ℕ → ℕ → List ℕ → Option ℕ
child changes element branch name = option_and_then (if_above changes branch) (branch_named changes element name)

use Rattle.std.proofs.Common.{◌≡◌, ◌++◌}
use Rattle.std.specs.Prelude.{flat_map}
use Rattle.vob_replica.specs.Showing.{tree_lines}
use Rattle.vob_replica.proofs.showing.push_trees.Given as goal

abbrev pub invariant-loop-tree : goal.invariant-loop-tree
invariant-loop-tree l = l.text.items ++ flat_map tree_lines l.tree-iterator ≡ l.initial.text.items ++ flat_map tree_lines l.branches

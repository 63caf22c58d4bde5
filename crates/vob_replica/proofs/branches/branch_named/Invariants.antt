use Rattle.std.proofs.Common.{◌≡◌}
use Rattle.std.specs.Map.{values_of}
use Rattle.vob_replica.specs.Trees.{named_tree}
use Rattle.vob_replica.proofs.branches.branch_named.Given as goal

abbrev pub invariant-loop-tree : goal.invariant-loop-tree
invariant-loop-tree l = named_tree l.tree-iterator l.element l.name ≡ named_tree (values_of l.branches.entries) l.element l.name

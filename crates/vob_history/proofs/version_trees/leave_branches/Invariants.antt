use Rattle.std.proofs.Common.{◌≡◌, ◌++◌, drop, map}
use Rattle.vob_history.specs.declared.version_trees.Part.TheVariants.{Branch}
use Rattle.vob_history.proofs.version_trees.leave_branches.Given as goal

-- what is left to tell, and then the branches that are left to add
abbrev pub invariant-loop-branch : goal.invariant-loop-branch
invariant-loop-branch l =
    l.left.items ++ map (Branch l.depth) (drop l.branch-index l.branch-items) ≡ l.initial.left.items
    ++ map (Branch l.depth) l.branch-items

use Rattle.std.proofs.Common.{◌≡◌, ◌++◌, length, map, reverse}
use Rattle.view_lookup.specs.Naming.{names_above}
use Rattle.base_model.specs.Changes.{tree}
use Rattle.view_lookup.proofs.version_names.names_upwards.Given as goal

-- the names that are found lead from what is left to the branch
abbrev pub invariant-loop-next : goal.invariant-loop-next
invariant-loop-next l = names_above (tree l.older) l.next ++ reverse (map (λ name. name.now) l.names.items)
    ≡ names_above (tree l.fn.rows) l.fn.branch

abbrev pub decreases-loop-next : goal.decreases-loop-next
decreases-loop-next l = length l.older

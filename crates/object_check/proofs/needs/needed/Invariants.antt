use Rattle.std.specs.BTreeSet.{contains}
use Rattle.std.specs.Ordering.{nat_cmp}
use Rattle.object_check.specs.Needed.{NeedsFrom}
use Rattle.object_check.proofs.needs.needed.Given as goal

-- the objects from a row on that have to be run again, with those that they name
abbrev pub invariant-loop-id : goal.invariant-loop-id
invariant-loop-id l = NeedsFrom l.rows l.id (contains nat_cmp l.needed)

abbrev pub decreases-loop-id : goal.decreases-loop-id
decreases-loop-id l = l.id

use Rattle.std.proofs.Common.{◌≡◌, ◌++◌, length}
use Rattle.base_core.specs.Keeping.Lanes.{fresh_lanes}
use Rattle.base_core.proofs.lanes.Lanes.begin.Given as goal

abbrev pub invariant-each : goal.invariant-each
invariant-each l = fresh_lanes l.phase.lanes ≡ l.lanes.items ++ fresh_lanes l.left

abbrev pub decreases-each : goal.decreases-each
decreases-each l = length l.left

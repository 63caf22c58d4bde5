use Rattle.std.proofs.Common.{◌≡◌, ◌+◌, length}
use Rattle.base_core.specs.Keeping.Lanes.{builds_in}
use Rattle.base_core.proofs.Keeping.SlotLists.{rows_of}
use Rattle.base_core.proofs.lanes.reserved_in.Given as goal

abbrev pub invariant-loop-lane : goal.invariant-loop-lane
invariant-loop-lane l = l.rows + rows_of (builds_in l.rest) ≡ rows_of (builds_in l.lanes)

abbrev pub decreases-loop-lane : goal.decreases-loop-lane
decreases-loop-lane l = length l.rest

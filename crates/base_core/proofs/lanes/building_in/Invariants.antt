use Rattle.std.proofs.Common.{◌≡◌, length}
use Rattle.base_core.specs.Keeping.Lanes.{builds_in}
use Rattle.base_core.proofs.Keeping.SlotLists.{tag_in}
use Rattle.base_core.proofs.lanes.building_in.Given as goal

abbrev pub invariant-loop-lane : goal.invariant-loop-lane
invariant-loop-lane l = tag_in (builds_in l.rest) l.view ≡ tag_in (builds_in l.lanes) l.view

abbrev pub decreases-loop-lane : goal.decreases-loop-lane
decreases-loop-lane l = length l.rest

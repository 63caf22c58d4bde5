-- the rows of the builds, lane by lane
use Rattle.std.proofs.Common.{arith, ◌∙◌}
use Rattle.base_core.specs.Keeping.Lanes.{builds_in}
use Rattle.base_core.proofs.Keeping.LaneSets.{builds_count}
use Rattle.base_core.proofs.Keeping.SlotLists.{reserved_rows, rows_none}
use Rattle.base_core.proofs.lanes.reserved_in.Goals as goal

pub overflow_add-rows : goal.overflow_add-rows
overflow_add-rows c = omega (arith, c.requires, c.loop-lane.invariant, reserved_rows 1 (builds_in c.args.lanes.now))

pub returns : goal.returns
returns c = omega (
  arith,
  c.loop-lane.invariant,
  reserved_rows 1 (builds_in c.args.lanes.now),
  rows_none (builds_in c.loop-lane.rest.now) (builds_count c.loop-lane.rest.now ∙ c.in_default.ensures.cases),
)

use Rattle.std.proofs.Common.{◌+◌, ◌*◌}
use Rattle.turn_lock_tests.proofs.tests.tally.+fn-run_lanes-join+arg2+fn-run_lanes-join+arg3+run_lanes.Given as goal

-- a closure weighs one more than the lanes that it runs
abbrev pub decreases-join+arg2 : goal.decreases-join+arg2
decreases-join+arg2 g l = 2 * l.here + 2

abbrev pub decreases-join+arg3 : goal.decreases-join+arg3
decreases-join+arg3 g l = 2 * l.others + 2

abbrev pub decreases-run_lanes : goal.decreases-run_lanes
decreases-run_lanes g l = 2 * l.lanes + 1

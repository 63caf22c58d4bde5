use Rattle.std.proofs.Common.{ap, arith, length}
use Rattle.session_run.proofs.Running.LanesDone.{phase_done_if}
use Rattle.session_run.proofs.Running.SinceSteps.{since_itself}
use Rattle.session_run.proofs.threads.run_on_threads.Goals as goal

pub run_lanes_at-core-requires-clause-since : goal.run_lanes_at-core-requires-clause-since
run_lanes_at-core-requires-clause-since g c κs within = since_itself c.args.core c.requires.opened

pub run_lanes_at-core-requires-clause-all : goal.run_lanes_at-core-requires-clause-all
run_lanes_at-core-requires-clause-all g c κs within = omega (arith, c.lanes-lanes.ensures, c.requires.few)

pub returns-clause-finished : goal.returns-clause-finished
returns-clause-finished g c =
    phase_done_if c.run_lanes_at-core.result.1 c.run_lanes_at-core.result.0.story _ _
    (omega (arith, c.lanes-lanes.ensures, c.requires.few, ap (λ p. length p.lanes) c.run_lanes_at-core.ensures.since.goes.phase))
    (λ k. c.a_lane_is_within_its_commands.ensures c.run_lanes_at-core.result.0.story k c.legal.ensures)
    c.run_lanes_at-core.ensures.finished

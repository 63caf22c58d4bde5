use Rattle.clearmake.specs.ReadingLaws.{later_on}
use Rattle.clearmake.proofs.Laning.{did_not_fail, one_more_done}
use Rattle.clearmake.proofs.lanes.run_lanes_apart.Goals as goal

pub loop-index-preserved : goal.loop-index-preserved
loop-index-preserved g c = (
  later_on c.args.pass c.loop-index.pass c.run_lane-next.result.0 c.loop-index.invariant.0 c.run_lane-next.ensures.pass,
  one_more_done c.loop-index.index g.T.PhaseService.number c.loop-index.pass.seen c.run_lane-next.result.0.seen
      c.run_lane-next.ensures.pass.begins c.loop-index.invariant.1
      (did_not_fail c.is_err.result c.run_lane-next.result.1 c.is_err.ensures.value c.if-is_err.false
      c.run_lane-next.ensures.finished),
)

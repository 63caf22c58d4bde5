use Rattle.clearmake.specs.Passes.{AreLanesDone, IsLater}
use Rattle.clearmake.proofs.lanes.run_lanes_apart.Given as goal

-- the lanes so far have nothing left to do
abbrev pub invariant-loop-index : goal.invariant-loop-index
invariant-loop-index g l = IsLater l.fn.pass l.pass × AreLanesDone l.pass.seen 1 l.index g.T.PhaseService.number

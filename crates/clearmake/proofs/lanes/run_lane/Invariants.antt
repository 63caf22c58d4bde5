use Rattle.clearmake.specs.Passes.{IsLater}
use Rattle.clearmake.proofs.lanes.run_lane.Given as goal

abbrev pub invariant-loop : goal.invariant-loop
invariant-loop g l = IsLater l.fn.pass l.pass

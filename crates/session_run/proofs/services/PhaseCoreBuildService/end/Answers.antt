use Rattle.session_run.proofs.Running.SinceSteps.{since_finishes}
use Rattle.session_run.proofs.services.PhaseCoreBuildService.end.Goals as goal

pub invariant_of-self : goal.invariant_of-self
invariant_of-self g c =
    since_finishes g.P.Beginning.at c.self.inside.core c.end.new.self c.self.invariant c.end.ensures.counted c.end.result
    c.args.lane c.end.ensures.ok c.end.ensures.err

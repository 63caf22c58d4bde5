use Rattle.std.proofs.Common.{ap, subst}
use Rattle.base_core.specs.Story.Shown.{Shown}
use Rattle.clearmake.specs.Calls.{LeavesConcluded}
use Rattle.session_run.proofs.Running.SinceSteps.{since_carries}
use Rattle.session_run.proofs.services.PhaseCoreBuildService.finish_unit.Goals as goal

pub invariant_of-self : goal.invariant_of-self
invariant_of-self g c =
    since_carries g.P.Beginning.at c.self.inside.core c.finish_unit.new.self c.self.invariant c.finish_unit.ensures.counted
    c.finish_unit.result c.args.lane c.args.unit c.finish_unit.ensures.ok c.finish_unit.ensures.err

pub returns-clause-concluded : goal.returns-clause-concluded
returns-clause-concluded g c =
    subst (λ core. LeavesConcluded core.story c.finish_unit.new.self.story c.args.lane c.args.unit) c.self.view_is
    (λ has. ap (λ (shown : Shown). shown.story) (c.finish_unit.ensures.concluded has))

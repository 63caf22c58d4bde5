use Rattle.std.proofs.Common.{ap, subst}
use Rattle.base_core.specs.Story.Shown.{Shown}
use Rattle.clearmake.specs.Calls.{LeavesConcluded}
use Rattle.session_run.proofs.Running.SinceSteps.{since_tries}
use Rattle.session_run.proofs.services.PhaseCoreBuildService.try_unit.Goals as goal

pub invariant_of-self : goal.invariant_of-self
invariant_of-self g c =
    since_tries g.P.Beginning.at c.self.inside.core c.try_unit.new.self c.self.invariant c.try_unit.ensures.counted
    c.try_unit.result c.args.lane c.args.unit c.try_unit.ensures.ok c.try_unit.ensures.err

pub returns-clause-concluded : goal.returns-clause-concluded
returns-clause-concluded g c =
    subst (λ core. LeavesConcluded core.story c.try_unit.new.self.story c.args.lane c.args.unit) c.self.view_is
    (λ has. ap (λ (shown : Shown). shown.story) (c.try_unit.ensures.concluded has))

use Rattle.std.proofs.Common.{ap, subst}
use Rattle.base_core.specs.Story.Shown.{Shown}
use Rattle.clearmake.specs.Calls.{LeavesActive}
use Rattle.session_run.proofs.Running.SinceSteps.{since_begins}
use Rattle.session_run.proofs.services.PhaseCoreBuildService.begin.Goals as goal

pub invariant_of-self : goal.invariant_of-self
invariant_of-self g c =
    since_begins g.P.Beginning.at c.self.inside.core c.begin.new.self c.self.invariant c.begin.ensures.counted c.begin.result
    c.args.lane c.begin.ensures.ok c.begin.ensures.err

pub returns-clause-active : goal.returns-clause-active
returns-clause-active g c =
    subst (λ core. LeavesActive core.story c.begin.new.self.story c.args.lane) c.self.view_is
    (λ build is. ap (λ (shown : Shown). shown.story) (c.begin.ensures.active build is))

use Rattle.std.proofs.Common.{◌≡◌, subst, sym}
use Rattle.cc_names.specs.declared.occasions.Next.TheVariants as nexts
use Rattle.legal_history.specs.Stories.Steps.{state_of}
use Rattle.clearmake.specs.Going.{Finishes}
use Rattle.clearmake.specs.Nexts.{next_of_lane}
use Rattle.session_run.proofs.Running.LaneSteps.{act_finishes}
use Rattle.session_run.proofs.Running.SinceSteps.{since_acts}
use Rattle.session_run.proofs.services.PhaseCoreBuildService.act.Goals as goal

pub invariant_of-self : goal.invariant_of-self
invariant_of-self g c =
    since_acts g.P.Beginning.at c.self.inside.core c.act.new.self c.self.invariant c.act.ensures.counted c.act.result c.args.lane
    (subst (λ core. next_of_lane (state_of core.story) c.args.lane ≡ nexts.Act) (sym c.self.view_is) c.requires) c.act.ensures.ok
    c.act.ensures.err

pub invariant_of-self-2 : goal.invariant_of-self-2
invariant_of-self-2 g c =
    since_acts g.P.Beginning.at c.self.inside.core c.act.new.self c.self.invariant c.act.ensures.counted c.act.result c.args.lane
    (subst (λ core. next_of_lane (state_of core.story) c.args.lane ≡ nexts.Act) (sym c.self.view_is) c.requires) c.act.ensures.ok
    c.act.ensures.err

pub returns-clause-ok : goal.returns-clause-ok
returns-clause-ok g c =
    subst (λ core. Finishes core.story c.act.new.self.story c.args.lane) c.self.view_is
    (act_finishes c.self.inside.core.story c.act.new.self.story c.args.lane c.in_ok-act.field-0
    (subst (λ core. next_of_lane (state_of core.story) c.args.lane ≡ nexts.Act) (sym c.self.view_is) c.requires)
    c.in_ok-act.ensures.ok)

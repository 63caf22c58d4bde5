-- a build begins
use Rattle.std.proofs.Common.{length, ap, sym, subst}
use Rattle.cc_names.specs.declared.steps.StoryStep.TheVariants as story_steps
use Rattle.legal_history.specs.Stories.Steps.{state_of}
use Rattle.clearmake.specs.Calls.{IsBuilding}
use Rattle.clearmake.specs.Going.{GoesOn}
use Rattle.base_core.specs.Keeping.CoreInvariants.{CoreInvariant}
use Rattle.story_log.specs.Logging.Logs.{with_step}
use Rattle.base_core.proofs.Building.OpenSteps.{preserved_opened, opened_so}
use Rattle.base_core.proofs.core_value.Core.open_build.Goals as goal

pub invariant_of-self : goal.invariant_of-self
invariant_of-self g c =
    subst (λ log. CoreInvariant log c.open.new.self c.self.inside.moment) (sym c.tell.ensures)
    (subst (λ lanes. CoreInvariant (with_step c.self.inside.log (story_steps.Begin c.tag-tag.result c.rows.result
    (length c.units.result.now))) lanes c.self.inside.moment) (sym c.open.ensures)
    (preserved_opened c.self.inside.log c.self.inside.lanes c.self.inside.moment c.rows.result (length c.units.result.now)
    c.args.self.now.story c.tag-tag.result c.args.build
    (ap (λ v. v.story) c.self.view_is) c.self.invariant c.requires c.tag-tag.ensures c.rows.ensures (ap length c.units.ensures)))

pub returns-clause-begins : goal.returns-clause-begins
returns-clause-begins g c =
    let so = opened_so c.self.inside.log c.rows.result (length c.units.result.now) c.args.self.now.story c.tag-tag.result
    c.args.build (ap (λ v. v.story) c.self.view_is) c.requires c.tag-tag.ensures in
    subst (λ log. GoesOn c.args.self.now.story log.story c.args.build.tag.lane
    × IsBuilding (state_of log.story) c.args.build.tag.lane (length c.args.build.units)) (sym c.tell.ensures) so

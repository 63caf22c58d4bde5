-- a command is refused: what is kept then
use Rattle.std.proofs.Common.{ap, sym, subst, ◌∙◌}
use Rattle.cc_names.specs.declared.steps.StoryStep.TheVariants as story_steps
use Rattle.base_core.specs.Keeping.CoreInvariants.{CoreInvariant}
use Rattle.story_log.specs.Logging.Logs.{with_step}
use Rattle.base_core.proofs.Acting.Finishing.{preserved_next_refusal}
use Rattle.base_core.proofs.Keeping.Rooms.{refusal_has_room}
use Rattle.base_core.proofs.core_value.Core.refuse.Goals as goal

pub reply-requires-clause-room : goal.reply-requires-clause-room
reply-requires-clause-room g c = (refusal_has_room c.self.inside.log c.self.inside.lanes c.self.inside.moment
    c.args.self.now.story c.args.tag c.args.refusal (ap (λ v. v.story) c.self.view_is) c.self.invariant c.requires).room

pub invariant_of-self : goal.invariant_of-self
invariant_of-self g c =
    subst (λ log. CoreInvariant log c.reply.new.self c.self.inside.moment) (sym (c.tell.ensures
    ∙ ap (λ refusal. with_step c.self.inside.log (story_steps.Refused c.args.tag refusal)) c.of.ensures))
    (subst (λ lanes. CoreInvariant (with_step c.self.inside.log (story_steps.Refused c.args.tag c.args.refusal)) lanes
    c.self.inside.moment) (sym c.reply.ensures)
    (preserved_next_refusal c.self.inside.log c.self.inside.lanes c.self.inside.moment c.args.self.now.story c.args.tag
    c.args.refusal (ap (λ v. v.story) c.self.view_is) c.self.invariant c.requires))

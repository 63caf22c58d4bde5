-- a query is answered: what is kept then
use Rattle.std.proofs.Common.{ap, sym, subst}
use Rattle.legal_history.specs.Stories.Steps.{state_of}
use Rattle.cc_names.specs.declared.replies.Reply.TheVariants as replies
use Rattle.cc_names.specs.declared.steps.StoryStep.TheVariants as story_steps
use Rattle.base_core.specs.Calls.Acting.{IsNextAnswer}
use Rattle.base_core.specs.Keeping.CoreInvariants.{CoreInvariant}
use Rattle.story_log.specs.Logging.Logs.{with_step}
use Rattle.base_core.proofs.Acting.Finishing.{preserved_next_answer}
use Rattle.base_core.proofs.Keeping.Rooms.{answer_has_room}
use Rattle.base_core.proofs.core_value.Core.tell_answer.Goals as goal

pub reply-requires-clause-room : goal.reply-requires-clause-room
reply-requires-clause-room g c = (answer_has_room c.self.inside.log c.self.inside.lanes c.self.inside.moment c.args.self.now.story
    c.args.tag c.args.text (replies.Answer c.args.text) (ap (λ v. v.story) c.self.view_is) c.self.invariant c.requires).room

pub invariant_of-self : goal.invariant_of-self
invariant_of-self g c =
    subst (λ log. CoreInvariant log c.reply.new.self c.self.inside.moment) (sym c.tell.ensures)
    (subst (λ lanes. CoreInvariant (with_step c.self.inside.log (story_steps.Answer c.args.tag c.of-kept.result.value)) lanes
    c.self.inside.moment) (sym c.reply.ensures)
    (preserved_next_answer c.self.inside.log c.self.inside.lanes c.self.inside.moment c.args.self.now.story c.args.tag
    c.of-kept.result.value (replies.Answer c.args.text) (ap (λ v. v.story) c.self.view_is) c.self.invariant
    (subst (λ text. IsNextAnswer (state_of c.args.self.now.story) c.args.tag text (replies.Answer c.args.text))
    (sym c.of-kept.ensures) c.requires)))

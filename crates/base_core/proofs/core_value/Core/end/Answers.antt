-- a build ends
use Rattle.std.proofs.Common.{ap, sym, subst}
use Rattle.cc_names.specs.declared.steps.StoryStep.TheVariants as story_steps
use Rattle.legal_history.specs.Stories.States.{next_tag}
use Rattle.legal_history.specs.Stories.Steps.{state_of}
use Rattle.clearmake.specs.Going.{Finishes}
use Rattle.base_core.specs.Keeping.CoreInvariants.{CoreInvariant}
use Rattle.story_log.specs.Logging.Logs.{with_step}
use Rattle.base_core.proofs.Building.EndSteps.{preserved_ended, ended_finishes}
use Rattle.base_core.proofs.Building.FoundBuilds.{build_preserved}
use Rattle.base_core.proofs.Keeping.Rooms.{build_has_room}
use Rattle.base_core.proofs.Building.UnitCalls.{builds_waits}
use Rattle.base_core.proofs.core_value.Core.end.Goals as goal

pub tag-tag-requires : goal.tag-tag-requires
tag-tag-requires g c = builds_waits (state_of c.args.self.now.story) c.args.lane
    (next_tag (state_of c.args.self.now.story) c.args.lane) (build_preserved c.self.inside.log c.self.inside.lanes
    c.self.inside.moment c.args.self.now.story c.args.lane c.requires.build (ap (λ v. v.story) c.self.view_is) c.self.invariant
    c.requires.active).waits

pub close-requires-clause-from : goal.close-requires-clause-from
close-requires-clause-from g c = (build_has_room c.self.inside.log c.self.inside.lanes c.self.inside.moment c.args.self.now.story
    c.args.lane c.requires.build (ap (λ v. v.story) c.self.view_is) c.self.invariant c.requires.active).from

pub close-requires-clause-upto : goal.close-requires-clause-upto
close-requires-clause-upto g c = (build_has_room c.self.inside.log c.self.inside.lanes c.self.inside.moment c.args.self.now.story
    c.args.lane c.requires.build (ap (λ v. v.story) c.self.view_is) c.self.invariant c.requires.active).upto

pub close-requires-clause-room : goal.close-requires-clause-room
close-requires-clause-room g c = (build_has_room c.self.inside.log c.self.inside.lanes c.self.inside.moment c.args.self.now.story
    c.args.lane c.requires.build (ap (λ v. v.story) c.self.view_is) c.self.invariant c.requires.active).room

pub invariant_of-self : goal.invariant_of-self
invariant_of-self g c =
    subst (λ log. CoreInvariant log c.close.new.self c.self.inside.moment) (sym c.tell.ensures)
    (subst (λ lanes. CoreInvariant (with_step c.self.inside.log (story_steps.End c.tag-tag.result)) lanes c.self.inside.moment)
    (sym c.close.ensures)
    (preserved_ended c.self.inside.log c.self.inside.lanes c.self.inside.moment c.args.lane c.args.self.now.story c.rows.result
    c.tag-tag.result c.build_at.result.now c.in_ok-reply.reply
    (ap (λ v. v.story) c.self.view_is) c.self.invariant c.requires c.build_at.ensures.active (sym c.rows.ensures)
    c.tag-tag.ensures c.in_ok-reply.ensures))

pub returns-clause-ok : goal.returns-clause-ok
returns-clause-ok g c =
    subst (λ log. Finishes c.args.self.now.story log.story c.args.lane) (sym c.tell.ensures)
    (ended_finishes c.self.inside.log c.args.self.now.story c.args.lane c.tag-tag.result (ap (λ v. v.story) c.self.view_is)
    c.tag-tag.ensures)

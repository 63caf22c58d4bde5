-- a unit comes to something without a row
use Rattle.std.proofs.Common.{◌<◌, length, ap, sym, subst, ◌∙◌}
use Rattle.build_core.specs.Comes.{came_of}
use Rattle.legal_history.specs.Builds.Active.{build_of}
use Rattle.legal_history.specs.Stories.Steps.{state_of}
use Rattle.base_core.specs.Calls.BuildCalls.{Noted}
use Rattle.base_core.specs.Keeping.CoreInvariants.{CoreInvariant}
use Rattle.story_log.specs.Story.Telling.{told}
use Rattle.story_log.proofs.Cases.{some_same}
use Rattle.base_core.proofs.Keeping.LaneSlots.{lane_slot, slot_there}
use Rattle.base_core.proofs.Building.UnitNotes.{preserved_noted, noted_so}
use Rattle.base_core.proofs.core_value.Core.note_step.Goals as goal

pub note-requires-clause-from : goal.note-requires-clause-from
note-requires-clause-from g c =
    (lane_slot c.self.inside.log c.self.inside.lanes c.self.inside.moment c.args.lane c.requires.build
    c.self.invariant (ap (λ v. build_of (state_of v.story).active c.args.lane) c.self.view_is ∙ c.requires.active)).from

pub note-requires-clause-upto : goal.note-requires-clause-upto
note-requires-clause-upto g c =
    (lane_slot c.self.inside.log c.self.inside.lanes c.self.inside.moment c.args.lane c.requires.build
    c.self.invariant (ap (λ v. build_of (state_of v.story).active c.args.lane) c.self.view_is ∙ c.requires.active)).upto

pub note-requires-clause-build : goal.note-requires-clause-build
note-requires-clause-build g c =
    slot_there c.self.inside.lanes c.args.lane c.requires.build
    (lane_slot c.self.inside.log c.self.inside.lanes c.self.inside.moment c.args.lane c.requires.build
    c.self.invariant (ap (λ v. build_of (state_of v.story).active c.args.lane) c.self.view_is ∙ c.requires.active))

pub note-requires-clause-unit : goal.note-requires-clause-unit
note-requires-clause-unit g c =
    λ build e. subst (λ b. c.args.unit < length b.units) (some_same c.requires.build build
    (sym (lane_slot c.self.inside.log c.self.inside.lanes c.self.inside.moment c.args.lane c.requires.build
    c.self.invariant (ap (λ v. build_of (state_of v.story).active c.args.lane) c.self.view_is ∙ c.requires.active)).held ∙ e))
    c.requires.within

pub invariant_of-self : goal.invariant_of-self
invariant_of-self g c =
    subst (λ log. CoreInvariant log c.note.new.self c.self.inside.moment) (sym c.tell.ensures)
    (preserved_noted c.self.inside.log c.self.inside.lanes c.note.new.self c.self.inside.moment c.args.self.now.story c.args.lane
    c.args.unit (told c.args.step.now) (came_of c.args.came)
    (ap (λ v. v.story) c.self.view_is) c.self.invariant c.requires (λ build e. c.note.ensures build e))

pub returns-clause-noted : goal.returns-clause-noted
returns-clause-noted g c =
    subst (λ log. Noted c.args.self.now.story log.story c.args.lane c.args.unit (came_of c.args.came))
    (sym c.tell.ensures)
    (noted_so c.self.inside.log c.args.self.now.story c.args.lane c.args.unit (told c.args.step.now) (came_of c.args.came)
    (ap (λ v. v.story) c.self.view_is) c.requires)

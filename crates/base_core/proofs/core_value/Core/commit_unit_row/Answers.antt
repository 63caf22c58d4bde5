-- a row that gives a unit an object is committed, or the disk fails under the build, which ends
use Rattle.std.proofs.Common.{◌≡◌, ◌<◌, Some, length, refl, ap, sym, subst, ◌∙◌}
use Rattle.std.specs.Prelude.{IsSome}
use Rattle.cc_names.specs.declared.steps.StoryStep.TheVariants as story_steps
use Rattle.legal_history.specs.Stories.Commanded.{next_command_of}
use Rattle.legal_history.specs.Stories.States.{next_tag}
use Rattle.legal_history.specs.Stories.Steps.{state_of}
use Rattle.story_log.specs.Logging.Appending.{Appends, IsCommitted, IsFaulted}
use Rattle.story_log.specs.declared.logs.Appended.TheVariants as appends
use Rattle.clearmake.specs.Going.{GoesOn, HasOutcome}
use Rattle.base_core.specs.Keeping.CoreInvariants.{CoreInvariant}
use Rattle.base_core.proofs.Building.BrokenBuilds.{preserved_broken_object, broken_object_finishes}
use Rattle.story_log.proofs.Cases.{some_same}
use Rattle.base_core.proofs.Keeping.LaneSlots.{lane_slot, slot_there}
use Rattle.base_core.proofs.Keeping.Rooms.{build_has_room}
use Rattle.base_core.proofs.Building.ObjectSteps.{gives_here, preserved_object, object_so, object_fits}
use Rattle.base_core.proofs.Building.UnitCalls.{builds_waits}
use Rattle.base_core.proofs.Story.Counts.{counts_ended}
use Rattle.base_core.proofs.core_value.Core.commit_unit_row.Goals as goal

pub tag-tag-requires : goal.tag-tag-requires
tag-tag-requires g c =
    let gives = gives_here c.self.inside.log c.self.inside.lanes c.self.inside.moment c.args.self.now.story c.args.lane
    c.args.unit c.args.row c.args.object (ap (λ v. v.story) c.self.view_is) c.self.invariant c.requires
    c.a_build_is_consistent.ensures in
    let waits = (c.self.invariant.builds.kept c.args.lane gives.build gives.active).waits in
    subst (λ v. IsSome (next_command_of (state_of v.story) c.args.lane)) c.self.view_is
    (builds_waits (state_of c.self.inside.log.story) c.args.lane (next_tag (state_of c.self.inside.log.story) c.args.lane) waits)

pub append-requires : goal.append-requires
append-requires g c =
    let gives = gives_here c.self.inside.log c.self.inside.lanes c.self.inside.moment c.args.self.now.story c.args.lane
    c.args.unit c.args.row c.args.object (ap (λ v. v.story) c.self.view_is) c.self.invariant c.requires
    c.a_build_is_consistent.ensures in
    record {
      fits = object_fits c.self.inside.log c.self.inside.lanes c.self.inside.moment c.args.lane c.args.unit c.args.row
          c.args.object c.self.invariant gives;
    }

pub note-requires-clause-from : goal.note-requires-clause-from
note-requires-clause-from g c =
    let gives = gives_here c.self.inside.log c.self.inside.lanes c.self.inside.moment c.args.self.now.story c.args.lane
    c.args.unit c.args.row c.args.object (ap (λ v. v.story) c.self.view_is) c.self.invariant c.requires
    c.a_build_is_consistent.ensures in
    (build_has_room c.self.inside.log c.self.inside.lanes c.self.inside.moment c.self.inside.log.story c.args.lane gives.build
    refl c.self.invariant gives.active).from

pub note-requires-clause-upto : goal.note-requires-clause-upto
note-requires-clause-upto g c =
    let gives = gives_here c.self.inside.log c.self.inside.lanes c.self.inside.moment c.args.self.now.story c.args.lane
    c.args.unit c.args.row c.args.object (ap (λ v. v.story) c.self.view_is) c.self.invariant c.requires
    c.a_build_is_consistent.ensures in
    (build_has_room c.self.inside.log c.self.inside.lanes c.self.inside.moment c.self.inside.log.story c.args.lane gives.build
    refl c.self.invariant gives.active).upto

pub note-requires-clause-build : goal.note-requires-clause-build
note-requires-clause-build g c =
    let gives = gives_here c.self.inside.log c.self.inside.lanes c.self.inside.moment c.args.self.now.story c.args.lane
    c.args.unit c.args.row c.args.object (ap (λ v. v.story) c.self.view_is) c.self.invariant c.requires
    c.a_build_is_consistent.ensures in
    slot_there c.self.inside.lanes c.args.lane gives.build (lane_slot c.self.inside.log c.self.inside.lanes c.self.inside.moment
    c.args.lane gives.build c.self.invariant gives.active)

pub note-requires-clause-unit : goal.note-requires-clause-unit
note-requires-clause-unit g c =
    let gives = gives_here c.self.inside.log c.self.inside.lanes c.self.inside.moment c.args.self.now.story c.args.lane
    c.args.unit c.args.row c.args.object (ap (λ v. v.story) c.self.view_is) c.self.invariant c.requires
    c.a_build_is_consistent.ensures in
    λ build e. subst (λ b. c.args.unit < length b.units) (some_same gives.build build
    (sym (lane_slot c.self.inside.log c.self.inside.lanes c.self.inside.moment c.args.lane gives.build c.self.invariant
    gives.active).held ∙ e)) gives.within

pub close-requires-clause-from : goal.close-requires-clause-from
close-requires-clause-from g c =
    let gives = gives_here c.self.inside.log c.self.inside.lanes c.self.inside.moment c.args.self.now.story c.args.lane
    c.args.unit c.args.row c.args.object (ap (λ v. v.story) c.self.view_is) c.self.invariant c.requires
    c.a_build_is_consistent.ensures in
    (build_has_room c.self.inside.log c.self.inside.lanes c.self.inside.moment c.self.inside.log.story c.args.lane gives.build
    refl c.self.invariant gives.active).from

pub close-requires-clause-upto : goal.close-requires-clause-upto
close-requires-clause-upto g c =
    let gives = gives_here c.self.inside.log c.self.inside.lanes c.self.inside.moment c.args.self.now.story c.args.lane
    c.args.unit c.args.row c.args.object (ap (λ v. v.story) c.self.view_is) c.self.invariant c.requires
    c.a_build_is_consistent.ensures in
    (build_has_room c.self.inside.log c.self.inside.lanes c.self.inside.moment c.self.inside.log.story c.args.lane gives.build
    refl c.self.invariant gives.active).upto

pub close-requires-clause-room : goal.close-requires-clause-room
close-requires-clause-room g c =
    let gives = gives_here c.self.inside.log c.self.inside.lanes c.self.inside.moment c.args.self.now.story c.args.lane
    c.args.unit c.args.row c.args.object (ap (λ v. v.story) c.self.view_is) c.self.invariant c.requires
    c.a_build_is_consistent.ensures in
    (build_has_room c.self.inside.log c.self.inside.lanes c.self.inside.moment c.self.inside.log.story c.args.lane gives.build
    refl c.self.invariant gives.active).room

pub invariant_of-self-in-Committed : goal.invariant_of-self-in-Committed
invariant_of-self-in-Committed g c =
    let gives = gives_here c.self.inside.log c.self.inside.lanes c.self.inside.moment c.args.self.now.story c.args.lane
    c.args.unit c.args.row c.args.object (ap (λ v. v.story) c.self.view_is) c.self.invariant c.requires
    c.a_build_is_consistent.ensures in
    let done : IsCommitted c.self.inside.log c.append.new.self c.args.row =
    subst (Appends c.self.inside.log c.append.new.self c.args.row (Some (story_steps.End c.tag-tag.result))) c.in-Committed.is
    c.in_ok-append.ensures.ok in
    subst (λ log. CoreInvariant log c.note.new.self c.self.inside.moment) (sym done.grows)
    (preserved_object c.self.inside.log c.self.inside.lanes c.note.new.self c.self.inside.moment c.args.lane c.args.unit
    c.args.row c.args.object done.tick done.ghost_state done.ticked c.self.invariant gives (λ build e. c.note.ensures build e)
    done.formed)

pub invariant_of-self-in-Faulted : goal.invariant_of-self-in-Faulted
invariant_of-self-in-Faulted g c =
    let gives = gives_here c.self.inside.log c.self.inside.lanes c.self.inside.moment c.args.self.now.story c.args.lane
    c.args.unit c.args.row c.args.object (ap (λ v. v.story) c.self.view_is) c.self.invariant c.requires
    c.a_build_is_consistent.ensures in
    let done : IsFaulted c.self.inside.log c.append.new.self c.args.row (Some (story_steps.End c.tag-tag.result)) =
    subst (Appends c.self.inside.log c.append.new.self c.args.row (Some (story_steps.End c.tag-tag.result))) c.in-Faulted.is
    c.in_ok-append.ensures.ok in
    let tagged : c.tag-tag.result ≡ next_tag (state_of c.self.inside.log.story) c.args.lane = c.tag-tag.ensures
    ∙ ap (λ v. next_tag (state_of v.story) c.args.lane) (sym c.self.view_is) in
    subst (λ lanes. CoreInvariant c.append.new.self lanes c.self.inside.moment) (sym c.close.ensures)
    (preserved_broken_object c.self.inside.log c.append.new.self c.self.inside.lanes c.self.inside.moment c.args.lane c.args.unit
    c.args.row c.args.object c.tag-tag.result done c.self.invariant gives tagged)

pub returns-in-Committed-clause-ok : goal.returns-in-Committed-clause-ok
returns-in-Committed-clause-ok g c =
    let gives = gives_here c.self.inside.log c.self.inside.lanes c.self.inside.moment c.args.self.now.story c.args.lane
    c.args.unit c.args.row c.args.object (ap (λ v. v.story) c.self.view_is) c.self.invariant c.requires
    c.a_build_is_consistent.ensures in
    let done : IsCommitted c.self.inside.log c.append.new.self c.args.row =
    subst (Appends c.self.inside.log c.append.new.self c.args.row (Some (story_steps.End c.tag-tag.result))) c.in-Committed.is
    c.in_ok-append.ensures.ok in
    subst (λ log. GoesOn c.args.self.now.story log.story c.args.lane × HasOutcome (state_of log.story) c.args.lane c.args.unit)
    (sym done.grows)
    (object_so c.self.inside.log c.args.self.now.story c.args.lane c.args.unit c.args.row c.args.object done.tick done.ghost_state
    (ap (λ v. v.story) c.self.view_is) gives)

pub returns-in-Faulted-clause-ok : goal.returns-in-Faulted-clause-ok
returns-in-Faulted-clause-ok g c =
    let gives = gives_here c.self.inside.log c.self.inside.lanes c.self.inside.moment c.args.self.now.story c.args.lane
    c.args.unit c.args.row c.args.object (ap (λ v. v.story) c.self.view_is) c.self.invariant c.requires
    c.a_build_is_consistent.ensures in
    let done : IsFaulted c.self.inside.log c.append.new.self c.args.row (Some (story_steps.End c.tag-tag.result)) =
    subst (Appends c.self.inside.log c.append.new.self c.args.row (Some (story_steps.End c.tag-tag.result))) c.in-Faulted.is
    c.in_ok-append.ensures.ok in
    let tagged : c.tag-tag.result ≡ next_tag (state_of c.self.inside.log.story) c.args.lane = c.tag-tag.ensures
    ∙ ap (λ v. next_tag (state_of v.story) c.args.lane) (sym c.self.view_is) in
    broken_object_finishes c.self.inside.log c.append.new.self c.self.inside.lanes c.self.inside.moment c.args.self.now.story
    c.args.lane c.args.unit c.args.row c.args.object c.tag-tag.result done (ap (λ v. v.story) c.self.view_is) c.self.invariant
    gives tagged

pub returns-in-Committed-clause-counted : goal.returns-in-Committed-clause-counted
returns-in-Committed-clause-counted g c =
    counts_ended c.self.inside.log c.append.new.self c.args.self.now c.args.row c.tag-tag.result appends.Committed c.self.view_is
    (subst (Appends c.self.inside.log c.append.new.self c.args.row (Some (story_steps.End c.tag-tag.result))) c.in-Committed.is
    c.in_ok-append.ensures.ok)

pub returns-in-Faulted-clause-counted : goal.returns-in-Faulted-clause-counted
returns-in-Faulted-clause-counted g c =
    counts_ended c.self.inside.log c.append.new.self c.args.self.now c.args.row c.tag-tag.result appends.Faulted c.self.view_is
    (subst (Appends c.self.inside.log c.append.new.self c.args.row (Some (story_steps.End c.tag-tag.result))) c.in-Faulted.is
    c.in_ok-append.ensures.ok)

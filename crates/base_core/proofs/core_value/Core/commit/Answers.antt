-- a row is committed, or the disk fails: what is kept then, and how the story went on
use Rattle.std.proofs.Common.{◌≡◌, ℕ, true, Option, Some, None, Ok, List, ◌++◌, ◌∷◌, [], ap, ap₂, sym, subst, ◌∙◌}
use Rattle.view_lookup.specs.Naming.{replied_name}
use Rattle.cc_names.specs.Formed.{Plain}
use Rattle.cc_names.specs.declared.steps.StoryStep.{StoryStep}
use Rattle.cc_names.specs.declared.steps.StoryStep.TheVariants as story_steps
use Rattle.base_model.specs.Fits.{fits}
use Rattle.legal_history.specs.Commands.Decisions.{Makes}
use Rattle.legal_history.specs.Stories.States.{decision_for}
use Rattle.legal_history.specs.Stories.Steps.{state_of}
use Rattle.base_core.specs.Calls.Acting.{Acts, IsRowToCommit}
use Rattle.base_core.specs.Keeping.CoreInvariants.{CoreInvariant}
use Rattle.base_core.specs.Keeping.Lanes.{LaneState, with_reply}
use Rattle.story_log.specs.Logging.Appending.{IsCommitted, IsFaulted, Appends}
use Rattle.base_core.specs.Calls.Answering.{append_reply, append_done}
use Rattle.story_log.specs.Logging.Logs.{Logged}
use Rattle.base_core.specs.Story.Replying.{replied_count, row_reply}
use Rattle.story_log.specs.declared.logs.Appended.{Appended}
use Rattle.story_log.specs.declared.logs.Appended.TheVariants as appends
use Rattle.base_core.proofs.Acting.Faulting.{preserved_next_fault, next_faults}
use Rattle.base_core.proofs.Acting.Finishing.{preserved_next_row}
use Rattle.base_core.proofs.Keeping.Rooms.{row_has_room}
use Rattle.base_core.proofs.Story.Counts.{counts_so}
use Rattle.base_core.proofs.core_value.Core.commit.Goals as goal

-- what is kept, whatever became of the row
preserved_append : (log new : Logged) (lanes : List LaneState) (now : ℕ) (story : List StoryStep) (row : Plain) (lane : ℕ)
    (name : Option (List ℕ)) (count : Option ℕ) (appended : Appended) → log.story ≡ story → lane ≡ row.tag.lane
    → CoreInvariant log lanes now → IsRowToCommit (state_of story) row
    → replied_name (row ∷ log.base) row.deed ≡ name → replied_count row.deed ≡ count → Appends log new row None appended
    → CoreInvariant new (with_reply lanes lane (append_reply appended name count)) now
preserved_append log new lanes now story row lane name count appends.Committed same at_lane h next named counted became =
    let done : IsCommitted log new row = became in
    subst (λ own. CoreInvariant own (with_reply lanes lane (row_reply name count)) now) (sym done.grows)
    (preserved_next_row log lanes now story row lane done.tick done.ghost_state done.ticked same at_lane h next done.formed
    (row_reply name count) (next.finishes.reply (row ∷ log.base) ∙ ap Some (ap₂ row_reply named counted)))
preserved_append log new lanes now story row lane name count appends.Faulted same at_lane h next named counted became =
    preserved_next_fault log new lanes now story row lane became same at_lane h next

-- the story went on by a step of that kind
acts_so : (log new : Logged) (story : List StoryStep) (row : Plain) (appended : Appended) → log.story ≡ story
    → IsRowToCommit (state_of story) row → Appends log new row None appended
    → Acts story new.story row.tag.lane (append_done appended)
acts_so log new story row appends.Committed same next became =
    let done : IsCommitted log new row = became in
    record {
      step = story_steps.Commit row done.tick;
      grows = ap (λ (l : Logged). l.story) done.grows ∙ ap (λ t. t ++ story_steps.Commit row done.tick ∷ []) same;
      is = (
        next.of_next.next,
        next.at_moment,
        subst (λ t. decision_for (state_of story) t ≡ Some (Ok (Makes row.deed)))
            next.of_next.next next.made,
      );
    }
acts_so log new story row appends.Faulted same next became =
    let done : IsFaulted log new row None = became in
    next_faults story new.story row done.found done.before done.faults done.tick
    (ap (λ (l : Logged). l.story) done.grows ∙ ap (λ t. t ++ story_steps.Fault row.tag done.found done.before done.faults done.tick
    ∷ []) same) next

pub append-requires : goal.append-requires
append-requires g c = record {
  fits = subst (λ b. fits b c.args.row.deed ≡ true) (ap (λ v. (state_of v.story).base) (sym c.self.view_is)
      ∙ c.self.invariant.story.base) c.requires.fits;
}

pub reply-requires-clause-room : goal.reply-requires-clause-room
reply-requires-clause-room g c = (row_has_room c.self.inside.log c.self.inside.lanes c.self.inside.moment c.args.self.now.story
    c.args.row c.tag-lane.result.lane (ap (λ v. v.story) c.self.view_is) c.self.invariant (ap (λ t. t.lane) c.tag-lane.ensures)
    c.requires).room

pub invariant_of-self-2 : goal.invariant_of-self-2
invariant_of-self-2 g c =
    let name = c.in_ok-name.name in
    let named : replied_name (c.args.row ∷ c.self.inside.log.base) c.args.row.deed ≡ name =
    ap₂ (λ b deed. replied_name (c.args.row ∷ b) deed) (sym c.rows.ensures) (sym c.deed.ensures.deed)
    ∙ sym (c.in_ok-name.ensures c.args.row (sym c.deed.ensures.deed)) in
    let count = c.replied_count-count.result in
    let counted : replied_count c.args.row.deed ≡ count = ap replied_count (sym c.deed-2.ensures.deed)
    ∙ sym c.replied_count-count.ensures in
    subst (λ lanes. CoreInvariant c.append.new.self lanes c.self.inside.moment)
    (sym (c.reply.ensures ∙ ap (λ reply. with_reply c.self.inside.lanes c.tag-lane.result.lane reply) c.append_reply.ensures))
    (preserved_append c.self.inside.log c.append.new.self c.self.inside.lanes c.self.inside.moment c.args.self.now.story
    c.args.row c.tag-lane.result.lane name count c.in_ok-appended.appended
    (ap (λ v. v.story) c.self.view_is) (ap (λ t. t.lane) c.tag-lane.ensures) c.self.invariant c.requires named counted
    c.in_ok-appended.ensures.ok)

pub returns-clause-ok : goal.returns-clause-ok
returns-clause-ok g c =
    subst (Acts c.args.self.now.story c.append.new.self.story c.args.row.tag.lane) (sym c.append_done.ensures)
    (acts_so c.self.inside.log c.append.new.self c.args.self.now.story c.args.row c.in_ok-appended.appended
    (ap (λ v. v.story) c.self.view_is) c.requires c.in_ok-appended.ensures.ok)

pub returns-clause-counted : goal.returns-clause-counted
returns-clause-counted g c = counts_so c.self.inside.log c.append.new.self c.args.self.now c.args.row c.in_ok-appended.appended
    c.self.view_is c.in_ok-appended.ensures.ok

-- What a core keeps after a fault of the disk under a command that builds nothing.
use Rattle.std.proofs.Common.{◌≡◌, ℕ, ◌≤◌, inl, inr, Option, Some, None, Ok, List, [], ◌∷◌, ◌++◌, length, refl, ap, sym}
use Rattle.std.proofs.Common.{subst, ◌∙◌, arith}
use Rattle.std.specs.Prelude.{option_and_then}
use Rattle.cc_names.specs.Formed.{Plain, IsFormed}
use Rattle.cc_names.specs.declared.replies.Reply.TheVariants as replies
use Rattle.cc_names.specs.declared.steps.StoryStep.{StoryStep}
use Rattle.cc_names.specs.declared.steps.StoryStep.TheVariants as story_steps
use Rattle.legal_history.specs.Builds.Active.{build_of}
use Rattle.legal_history.specs.Commands.Decisions.{Makes}
use Rattle.legal_history.specs.Stories.States.{State, decision_for, build_if, build_by}
use Rattle.legal_history.specs.Stories.Steps.{after, state_of, done_by_fault, faulted_in}
use Rattle.legal_history.specs.Stories.Committing.{LeavesRow, MayCommit}
use Rattle.cc_names.specs.declared.occasions.Done.TheVariants.{Faulted}
use Rattle.base_core.specs.Calls.Acting.{Acts, IsRowToCommit, FinishesCommand}
use Rattle.story_log.specs.Logging.Appending.{MayLeaveRow, IsFaulted}
use Rattle.base_core.specs.Keeping.CoreInvariants.{CoreInvariant}
use Rattle.base_core.specs.Keeping.Lanes.{LaneState, with_reply}
use Rattle.story_log.specs.Logging.Logs.{Logged}
use Rattle.story_log.specs.Stopping.Tails.{tail_after_fault}
use Rattle.base_core.specs.Story.Replying.{in_lane, reply_to_fault, replies_of}
use Rattle.base_core.proofs.Keeping.Idle.{decided_is_free}
use Rattle.base_core.proofs.Keeping.PreservedBuilds.{same_rows}
use Rattle.base_core.proofs.Keeping.PreservedSteps.{preserved_finished}
use Rattle.story_log.proofs.Story.Naming.{left_named}

-- what a fault left is what it may leave
pub leaves_so : (s : State) (row : Plain) (left : Option Plain) → MayCommit s row → MayLeaveRow s row left
    → LeavesRow s row.tag left
leaves_so s row None may h = tt
leaves_so s row (Some left) may (inl e) = inl (ap (λ r. r.tag) e, subst (MayCommit s) (sym e) may)
leaves_so s row (Some left) may (inr e) = inr e

-- what is kept then
preserved_fault : (log new : Logged) (lanes : List LaneState) (now : ℕ) (row : Plain) → IsFaulted log new row None
    → CoreInvariant log lanes now → FinishesCommand row.deed → row.moment ≡ now
    → decision_for (state_of log.story) row.tag ≡ Some (Ok (Makes row.deed)) → 1 ≤ row.tag.lane → row.tag.lane ≤ length lanes
    → CoreInvariant new (with_reply lanes row.tag.lane replies.DiskFault) now
preserved_fault log new lanes now row done h finishes in_time made low high =
    subst (λ l. CoreInvariant l (with_reply lanes row.tag.lane replies.DiskFault) now) (sym done.grows)
    (preserved_finished log lanes now x log.base done.ghost_state (tail_after_fault log.tail done.left) row.tag replies.DiskFault h low high
    (record {
      lawful = record {
        wanted = record { row = row; of_tag = refl; may = may };
        rose = done.rose;
        later = done.later;
        leaves = leaves_so s row done.found may done.leaves;
        ticked = done.ticked;
      };
      names = left_named IsFormed log.story row done.found done.leaves done.formed h.story.formed;
      leads = h.story.base;
    })
    (record {
      free = free;
      same = record { phase = refl; number = refl; moment = refl };
      rows = same_rows s (after s x) refl;
      active = ap (faulted_in s.active row.tag.lane) no_build;
      done = ap (done_by_fault s.done row.tag.lane) no_build;
      said = λ l. ap (λ o. replies_of log.story l ++ in_lane l row.tag (reply_to_fault o)) no_build;
    }))
  where
    s : State
    s = state_of log.story

    x : StoryStep
    x = story_steps.Fault row.tag done.found done.before done.faults done.tick

    may : MayCommit s row
    may = record { moment = in_time ∙ sym h.phase.moment; made = finishes.made s row made }

    free : build_of s.active row.tag.lane ≡ None
    free = decided_is_free s row.tag (Ok (Makes row.deed)) made

    no_build : build_by s row.tag ≡ None
    no_build = ap (option_and_then (build_if row.tag)) free

-- what is kept after a fault under a lane's next command
pub preserved_next_fault : (log new : Logged) (lanes : List LaneState) (now : ℕ) (story : List StoryStep) (row : Plain) (lane : ℕ)
    → IsFaulted log new row None → log.story ≡ story → lane ≡ row.tag.lane → CoreInvariant log lanes now
    → IsRowToCommit (state_of story) row → CoreInvariant new (with_reply lanes lane replies.DiskFault) now
preserved_next_fault log new lanes now story row lane done same at_lane h next =
    let here : IsRowToCommit (state_of log.story) row = subst (λ t. IsRowToCommit (state_of t) row) (sym same) next in
    subst (λ l. CoreInvariant new (with_reply lanes l replies.DiskFault) now) (sym at_lane)
    (preserved_fault log new lanes now row done h here.finishes (here.at_moment ∙ h.phase.moment) here.made here.of_next.from
    (omega (arith, here.of_next.upto, h.replies.count)))

-- how the story went on
pub next_faults : (old new : List StoryStep) (row : Plain) (left : Option Plain) (before faults tick : ℕ)
    → new ≡ old ++ story_steps.Fault row.tag left before faults tick ∷ [] → IsRowToCommit (state_of old) row
    → Acts old new row.tag.lane Faulted
next_faults old new row left before faults tick e next = record {
  step = story_steps.Fault row.tag left before faults tick;
  grows = e;
  is = (
    next.of_next.next,
    row.deed,
    subst (λ t. decision_for (state_of old) t ≡ Some (Ok (Makes row.deed))) next.of_next.next
        next.made,
  );
}

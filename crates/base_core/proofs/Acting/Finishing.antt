-- What a core keeps after a row, a refusal or an answer that finishes a command of a lane.
use Rattle.std.proofs.Common.{◌≡◌, ℕ, ◌≤◌, true, Some, Ok, Err, List, ◌∷◌, ◌++◌, length, refl, ap, sym, subst, ◌∙◌, arith}
use Rattle.cc_names.specs.Counts.{rises}
use Rattle.cc_names.specs.Formed.{Plain, IsFormed}
use Rattle.cc_names.specs.declared.refusals.Refusal.{Refusal}
use Rattle.cc_names.specs.declared.replies.Reply.{Reply}
use Rattle.cc_names.specs.declared.replies.Reply.TheVariants as replies
use Rattle.cc_names.specs.declared.rows.Tag.{Tag}
use Rattle.cc_names.specs.declared.steps.StoryStep.{StoryStep}
use Rattle.cc_names.specs.declared.steps.StoryStep.TheVariants as story_steps
use Rattle.disk_model.specs.DiskStates.{DiskState}
use Rattle.legal_history.specs.Commands.Decisions.{Makes, Answers}
use Rattle.legal_history.specs.Stories.States.{State, decision_for, next_command, ticks_of}
use Rattle.legal_history.specs.Stories.Steps.{after, state_of}
use Rattle.base_core.specs.Calls.Acting.{FinishesCommand, IsRowToCommit, IsNextAnswer, IsNextRefusal}
use Rattle.base_core.specs.Keeping.CoreInvariants.{CoreInvariant}
use Rattle.base_core.specs.Keeping.Lanes.{LaneState, with_reply}
use Rattle.story_log.specs.Logging.Logs.{Logged, with_committed_row, with_step}
use Rattle.story_log.specs.Stopping.Tails.{tail_after_row}
use Rattle.base_core.specs.Story.Replying.{in_lane, replies_of, reply_to_answer, reply_to_row}
use Rattle.base_core.proofs.Keeping.Idle.{decided_is_free}
use Rattle.base_core.proofs.Keeping.PreservedBuilds.{same_rows, more_rows}
use Rattle.base_core.proofs.Keeping.PreservedSteps.{preserved_finished}

-- what is kept after a commit
preserved_commit : (log : Logged) (lanes : List LaneState) (now : ℕ) (row : Plain) (tick : ℕ) (ghost_state : DiskState)
    → rises (ticks_of (state_of log.story).opened (state_of log.story).ends) tick ≡ true → CoreInvariant log lanes now
    → FinishesCommand row.deed → row.moment ≡ now
    → decision_for (state_of log.story) row.tag ≡ Some (Ok (Makes row.deed)) → 1 ≤ row.tag.lane → row.tag.lane ≤ length lanes
    → IsFormed row → (reply : Reply) → reply_to_row (row ∷ log.base) row.deed ≡ Some reply
    → CoreInvariant (with_committed_row log row tick ghost_state) (with_reply lanes row.tag.lane reply) now
preserved_commit log lanes now row tick ghost_state ticked h finishes in_time made low high formed reply replied =
    let s : State = state_of log.story in
    let x : StoryStep = story_steps.Commit row tick in
    preserved_finished log lanes now x (row ∷ log.base) ghost_state (tail_after_row log.tail row) row.tag reply h
    low high
    (record {
      lawful = record {
        may = record { moment = in_time ∙ sym h.phase.moment; made = finishes.made s row made };
        ticked = ticked;
      };
      names = formed;
      leads = ap (λ b. row ∷ b) h.story.base;
    })
    (record {
      free = decided_is_free s row.tag (Ok (Makes row.deed)) made;
      same = record { phase = refl; number = refl; moment = refl };
      rows = more_rows s (after s x) row refl;
      active = finishes.active s.base s.active row.tag.lane;
      done = finishes.done s.done row.tag.lane;
      said = λ l. ap (λ r. replies_of log.story l ++ in_lane l row.tag r) (ap (λ b. reply_to_row (row ∷ b) row.deed) h.story.base
          ∙ replied);
    })

-- what is kept after a refusal
preserved_refusal : (log : Logged) (lanes : List LaneState) (now : ℕ) (tag : Tag) (refusal : Refusal)
    → CoreInvariant log lanes now → decision_for (state_of log.story) tag ≡ Some (Err refusal) → 1 ≤ tag.lane
    → tag.lane ≤ length lanes
    → CoreInvariant (with_step log (story_steps.Refused tag refusal)) (with_reply lanes tag.lane (replies.Refused refusal)) now
preserved_refusal log lanes now tag refusal h made low high =
    let s : State = state_of log.story in
    let x : StoryStep = story_steps.Refused tag refusal in
    preserved_finished log lanes now x log.base log.ghost_state log.tail tag (replies.Refused refusal) h low high
    (record { lawful = made; names = tt; leads = h.story.base })
    (record {
      free = decided_is_free s tag (Err refusal) made;
      same = record { phase = refl; number = refl; moment = refl };
      rows = same_rows s (after s x) refl;
      active = refl;
      done = refl;
      said = λ l. refl;
    })

-- what is kept after an answer
preserved_answer : (log : Logged) (lanes : List LaneState) (now : ℕ) (tag : Tag) (text : List ℕ) (reply : Reply)
    → CoreInvariant log lanes now → decision_for (state_of log.story) tag ≡ Some (Ok (Answers text))
    → reply_to_answer (next_command (state_of log.story) tag) text ≡ reply → 1 ≤ tag.lane → tag.lane ≤ length lanes
    → CoreInvariant (with_step log (story_steps.Answer tag text)) (with_reply lanes tag.lane reply) now
preserved_answer log lanes now tag text reply h made replied low high =
    let s : State = state_of log.story in
    let x : StoryStep = story_steps.Answer tag text in
    preserved_finished log lanes now x log.base log.ghost_state log.tail tag reply h low high
    (record { lawful = made; names = tt; leads = h.story.base })
    (record {
      free = decided_is_free s tag (Ok (Answers text)) made;
      same = record { phase = refl; number = refl; moment = refl };
      rows = same_rows s (after s x) refl;
      active = refl;
      done = refl;
      said = λ l. ap (λ r. replies_of log.story l ++ in_lane l tag (Some r)) replied;
    })

-- what is kept after the row of a lane's next command
pub preserved_next_row : (log : Logged) (lanes : List LaneState) (now : ℕ) (story : List StoryStep) (row : Plain) (lane tick : ℕ)
    (ghost_state : DiskState) → rises (ticks_of (state_of log.story).opened (state_of log.story).ends) tick ≡ true
    → log.story ≡ story → lane ≡ row.tag.lane → CoreInvariant log lanes now
    → IsRowToCommit (state_of story) row → IsFormed row → (reply : Reply) → reply_to_row (row ∷ log.base) row.deed ≡ Some reply
    → CoreInvariant (with_committed_row log row tick ghost_state) (with_reply lanes lane reply) now
preserved_next_row log lanes now story row lane tick ghost_state ticked same at_lane h next formed reply replied =
    let here : IsRowToCommit (state_of log.story) row = subst (λ t. IsRowToCommit (state_of t) row) (sym same) next in
    subst (λ l. CoreInvariant (with_committed_row log row tick ghost_state) (with_reply lanes l reply) now) (sym at_lane)
    (preserved_commit log lanes now row tick ghost_state ticked h here.finishes (here.at_moment
    ∙ h.phase.moment) here.made here.of_next.from
    (omega (arith, here.of_next.upto, h.replies.count)) formed reply replied)

-- what is kept after the refusal of a lane's next command
pub preserved_next_refusal : (log : Logged) (lanes : List LaneState) (now : ℕ) (story : List StoryStep) (tag : Tag)
    (refusal : Refusal) → log.story ≡ story → CoreInvariant log lanes now → IsNextRefusal (state_of story) tag refusal
    → CoreInvariant (with_step log (story_steps.Refused tag refusal)) (with_reply lanes tag.lane (replies.Refused refusal)) now
preserved_next_refusal log lanes now story tag refusal same h next =
    let here : IsNextRefusal (state_of log.story) tag refusal = subst (λ t. IsNextRefusal (state_of t) tag refusal) (sym same)
    next in
    preserved_refusal log lanes now tag refusal h here.made here.of_next.from (omega (arith, here.of_next.upto, h.replies.count))

-- what is kept after the answer to a lane's next command
pub preserved_next_answer : (log : Logged) (lanes : List LaneState) (now : ℕ) (story : List StoryStep) (tag : Tag)
    (text : List ℕ) (reply : Reply) → log.story ≡ story → CoreInvariant log lanes now
    → IsNextAnswer (state_of story) tag text reply
    → CoreInvariant (with_step log (story_steps.Answer tag text)) (with_reply lanes tag.lane reply) now
preserved_next_answer log lanes now story tag text reply same h next =
    let here : IsNextAnswer (state_of log.story) tag text reply =
    subst (λ t. IsNextAnswer (state_of t) tag text reply) (sym same) next in
    preserved_answer log lanes now tag text reply h here.made here.reply here.of_next.from
    (omega (arith, here.of_next.upto, h.replies.count))

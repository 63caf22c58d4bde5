-- What is kept, and how the story went on, after the end of a build.
use Rattle.std.proofs.Common.{◌≡◌, ℕ, true, Some, List, [], ◌∷◌, ◌++◌, ap, sym, subst, ◌∙◌}
use Rattle.cc_names.specs.declared.replies.Reply.{Reply}
use Rattle.cc_names.specs.declared.rows.Tag.{Tag}
use Rattle.cc_names.specs.declared.steps.StoryStep.{StoryStep}
use Rattle.cc_names.specs.declared.steps.StoryStep.TheVariants as story_steps
use Rattle.legal_history.specs.Builds.Replied.{reply_of}
use Rattle.base_model.specs.Rows.{Base}
use Rattle.legal_history.specs.Builds.Active.{Build, build_of}
use Rattle.legal_history.specs.Stories.States.{State, start, done_of, with_done, next_tag}
use Rattle.legal_history.specs.Stories.Steps.{state_of, without_build}
use Rattle.legal_history.specs.Builds.Turns.{is_complete}
use Rattle.legal_history.proofs.Stories.LaterSteps.{own_done}
use Rattle.clearmake.specs.Calls.{IsOver}
use Rattle.clearmake.specs.Going.{Finishes}
use Rattle.base_core.specs.Keeping.CoreInvariants.{CoreInvariant}
use Rattle.base_core.specs.Keeping.Lanes.{LaneState, with_closed}
use Rattle.story_log.specs.Logging.Logs.{Logged, with_step}
use Rattle.base_core.proofs.Building.Closing.{preserved_end}
use Rattle.story_log.proofs.Story.Growing.{state_from-more}
use Rattle.story_log.proofs.Cases.{some_same}
use Rattle.base_core.proofs.Keeping.LaneCounts.{done_other}
use Rattle.base_core.proofs.Keeping.LaneSlots.{lane_slot}

-- what is kept
pub preserved_ended : (log : Logged) (lanes : List LaneState) (now lane : ℕ) (story : List StoryStep) (rows : Base) (tag : Tag)
    (build : Build) (reply : Reply) → log.story ≡ story → CoreInvariant log lanes now → IsOver (state_of story) lane
    → build_of (state_of story).active lane ≡ Some build
    → (state_of story).base ≡ rows → tag ≡ next_tag (state_of story) lane → reply ≡ reply_of rows build
    → CoreInvariant (with_step log (story_steps.End tag)) (with_closed lanes lane reply) now
preserved_ended log lanes now lane story rows tag build reply same h over found base tagged replied =
    let active : build_of (state_of log.story).active lane ≡ Some build = ap (λ t. build_of (state_of t).active lane) same
    ∙ found in
    let slot = lane_slot log lanes now lane build h active in
    let tag_is : next_tag (state_of log.story) lane ≡ tag = ap (λ t. next_tag (state_of t) lane) same ∙ sym tagged in
    let reply_is : reply_of (state_of log.story).base build ≡ reply = ap (λ t. reply_of (state_of t).base build) same
    ∙ ap (λ b. reply_of b build) base ∙ sym replied in
    let complete : is_complete build ≡ true = ap is_complete (sym (some_same over.build build (sym over.active ∙ found)))
    ∙ over.complete in
    subst (λ r. CoreInvariant (with_step log (story_steps.End tag)) (with_closed lanes lane r) now) reply_is
    (subst (λ t. CoreInvariant (with_step log (story_steps.End t)) (with_closed lanes lane (reply_of (state_of log.story).base build))
    now) tag_is
    (preserved_end log lanes now lane build h slot.from slot.upto active complete))

-- how the story went on
pub ended_finishes : (log : Logged) (story : List StoryStep) (lane : ℕ) (tag : Tag) → log.story ≡ story
    → tag ≡ next_tag (state_of story) lane → Finishes story (with_step log (story_steps.End tag)).story lane
ended_finishes log story lane tag same tagged = record {
  steps = x ∷ [];
  grows = ap (λ t. t ++ x ∷ []) same;
  one = ap (λ (t : Tag). Some t.lane) tagged;
  phase = record { phase = ap (λ t. t.phase) state; number = ap (λ t. t.number) state; moment = ap (λ t. t.moment) state };
  done = ap (λ t. done_of t.done lane) state ∙ own_done s.done lane;
  others = λ other differs. ap (λ t. done_of t.done other) state ∙ done_other s.done lane other differs;
}
  where
    s : State
    s = state_of story

    x : StoryStep
    x = story_steps.End tag

    state : state_of (log.story ++ x ∷ []) ≡ record s { done = with_done s.done lane; active = without_build s.active lane }
    state = ap (λ t. state_of (t ++ x ∷ [])) same ∙ state_from-more start story x
        ∙ ap (λ t. record s { done = with_done s.done t.lane; active = without_build s.active t.lane }) tagged

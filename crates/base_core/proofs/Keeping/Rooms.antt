-- That there is room for the reply to a command that is carried out.
use Rattle.std.proofs.Common.{◌≡◌, ℕ, Some, Ok, Err, List, ap, sym, subst, ◌∙◌}
use Rattle.cc_names.specs.Formed.{Plain}
use Rattle.cc_names.specs.declared.refusals.Refusal.{Refusal}
use Rattle.cc_names.specs.declared.replies.Reply.{Reply}
use Rattle.cc_names.specs.declared.rows.Tag.{Tag}
use Rattle.cc_names.specs.declared.steps.StoryStep.{StoryStep}
use Rattle.legal_history.specs.Builds.Active.{Build, build_of}
use Rattle.legal_history.specs.Commands.Decisions.{Makes, Answers}
use Rattle.legal_history.specs.Stories.States.{next_tag}
use Rattle.legal_history.specs.Stories.Steps.{state_of}
use Rattle.base_core.specs.Calls.Acting.{IsRowToCommit, IsNextAnswer, IsNextRefusal}
use Rattle.base_core.specs.Keeping.CoreInvariants.{CoreInvariant}
use Rattle.base_core.specs.Keeping.Lanes.{LaneState}
use Rattle.story_log.specs.Logging.Logs.{Logged}
use Rattle.base_core.proofs.Keeping.Idle.{decided_waits}
use Rattle.base_core.proofs.Keeping.LaneSlots.{HasRoom, has_room}
use Rattle.base_core.proofs.Building.UnitCalls.{builds_waits}

-- of a row that is committed, or under which the disk fails
pub row_has_room : (log : Logged) (lanes : List LaneState) (now : ℕ) (story : List StoryStep) (row : Plain) (lane : ℕ)
    → log.story ≡ story → CoreInvariant log lanes now → lane ≡ row.tag.lane → IsRowToCommit (state_of story) row
    → HasRoom lanes lane
row_has_room log lanes now story row lane same h at_lane next =
    let here : IsRowToCommit (state_of log.story) row = subst (λ t. IsRowToCommit (state_of t) row) (sym same) next in
    subst (HasRoom lanes) (sym at_lane) (has_room log lanes now row.tag.lane h
    (decided_waits (state_of log.story) row.tag (Ok (Makes row.deed)) here.made))

-- of a refusal
pub refusal_has_room : (log : Logged) (lanes : List LaneState) (now : ℕ) (story : List StoryStep) (tag : Tag) (refusal : Refusal)
    → log.story ≡ story → CoreInvariant log lanes now → IsNextRefusal (state_of story) tag refusal → HasRoom lanes tag.lane
refusal_has_room log lanes now story tag refusal same h next =
    let here : IsNextRefusal (state_of log.story) tag refusal = subst (λ t. IsNextRefusal (state_of t) tag refusal) (sym same)
    next in
    has_room log lanes now tag.lane h (decided_waits (state_of log.story) tag (Err refusal) here.made)

-- of an answer
pub answer_has_room : (log : Logged) (lanes : List LaneState) (now : ℕ) (story : List StoryStep) (tag : Tag) (text : List ℕ)
    (reply : Reply) → log.story ≡ story → CoreInvariant log lanes now → IsNextAnswer (state_of story) tag text reply
    → HasRoom lanes tag.lane
answer_has_room log lanes now story tag text reply same h next =
    let here : IsNextAnswer (state_of log.story) tag text reply = subst (λ t. IsNextAnswer (state_of t) tag text reply) (sym same)
    next in
    has_room log lanes now tag.lane h (decided_waits (state_of log.story) tag (Ok (Answers text)) here.made)

-- of a lane that builds
pub build_has_room : (log : Logged) (lanes : List LaneState) (now : ℕ) (story : List StoryStep) (lane : ℕ) (build : Build)
    → log.story ≡ story → CoreInvariant log lanes now → build_of (state_of story).active lane ≡ Some build → HasRoom lanes lane
build_has_room log lanes now story lane build same h is =
    let kept = h.builds.kept lane build (ap (λ t. build_of (state_of t).active lane) same ∙ is) in
    has_room log lanes now lane h (builds_waits (state_of log.story) lane (next_tag (state_of log.story) lane) kept.waits)

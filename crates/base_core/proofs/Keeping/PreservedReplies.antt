-- The replies to the lanes after one more step of the story.
use Rattle.std.proofs.Common.{◌≡◌, ◌≢◌, ℕ, zero, suc, ◌+◌, ◌-◌, ◌≤◌, ◌⊎◌, inl, inr, Some, List, [], ◌∷◌, ◌++◌, length}
use Rattle.std.proofs.Common.{length-append, set, drop, drop-drop, refl, ap, sym, subst, ◌∙◌, arith}
use Rattle.std.proofs.lemmas.List.{append-nil, length-set, get_or-set_same, get_or-set_other}
use Rattle.std.proofs.lemmas.Bool.{cases_eq}
use Rattle.cc_names.specs.Commands.{lane_at}
use Rattle.cc_names.specs.declared.commands.Lane.{Lane}
use Rattle.cc_names.specs.declared.replies.Reply.{Reply}
use Rattle.cc_names.specs.declared.rows.Tag.{Tag}
use Rattle.cc_names.specs.declared.steps.StoryStep.{StoryStep}
use Rattle.legal_history.specs.Stories.States.{start, done_of, with_done}
use Rattle.legal_history.specs.Stories.Steps.{after, state_of}
use Rattle.legal_history.proofs.Stories.LaterSteps.{own_done}
use Rattle.base_core.specs.Keeping.CoreInvariants.{AreReplies}
use Rattle.base_core.specs.Keeping.Lanes.{LaneState, no_lane, commands_at, replies_at, room_at}
use Rattle.base_core.specs.Story.Replying.{in_lane, replies_after, replies_of, no_replies}
use Rattle.story_log.proofs.Story.Growing.{state_from-more}
use Rattle.base_core.proofs.Story.Growing.{replies_from-more}
use Rattle.base_core.proofs.Keeping.LaneCounts.{done_other, in_same, in_other}
use Rattle.base_core.proofs.Keeping.LaneSets.{shared}

-- a step with which one lane finishes a command
pub replies_more : (story : List StoryStep) (x : StoryStep) (lanes : List LaneState) (tag : Tag) (reply : Reply)
    (kept : LaneState) → AreReplies story lanes → 1 ≤ tag.lane → tag.lane ≤ length lanes
    → ((l : ℕ) → replies_after (state_of story) x (replies_of story) l ≡ replies_of story l ++ in_lane l tag (Some reply))
    → (after (state_of story) x).done ≡ with_done (state_of story).done tag.lane
    → (after (state_of story) x).phase ≡ (state_of story).phase
    → kept.replies ≡ replies_at lanes tag.lane ++ reply ∷ [] → kept.room ≡ room_at lanes tag.lane
    → kept.commands ≡ drop 1 (commands_at lanes tag.lane)
    → AreReplies (story ++ x ∷ []) (set lanes (tag.lane - 1) kept)
replies_more story x lanes tag reply kept h low high said done phase replies_are room_is commands_are = record {
  count = length-set lanes (tag.lane - 1) kept ∙ h.count ∙ ap (λ p. length p.lanes) (sym same_phase);
  replies = λ l from upto. by l from upto (cases_eq l tag.lane);
  done = λ l. counted l (cases_eq l tag.lane);
  room = λ l one is. omega (
    arith,
    h.room l one (ap (λ p. lane_at p l) (sym same_phase) ∙ is),
    shared (λ lane. lane.room) lanes (tag.lane - 1) (l - 1) kept (omega arith) room_is,
  );
  left = λ l one is. still l one (ap (λ p. lane_at p l) (sym same_phase) ∙ is) (cases_eq l tag.lane);
}
  where
    more : List StoryStep
    more = story ++ x ∷ []

    same_phase : (state_of more).phase ≡ (state_of story).phase
    same_phase = ap (λ s. s.phase) (state_from-more start story x) ∙ phase

    state : (state_of more).done ≡ with_done (state_of story).done tag.lane
    state = ap (λ s. s.done) (state_from-more start story x) ∙ done

    grown : (l : ℕ) → replies_of more l ≡ replies_of story l ++ in_lane l tag (Some reply)
    grown l = ap (λ f. f l) (replies_from-more start no_replies story x) ∙ said l

    same : replies_of more tag.lane ≡ replies_of story tag.lane ++ reply ∷ []
    same = grown tag.lane ∙ ap (λ r. replies_of story tag.lane ++ r) (in_same tag tag.lane reply refl)

    others : (l : ℕ) → l ≢ tag.lane → replies_of more l ≡ replies_of story l
    others l differs = grown l ∙ ap (λ r. replies_of story l ++ r) (in_other tag tag.lane l reply refl differs)
        ∙ append-nil (replies_of story l)

    by : (l : ℕ) → 1 ≤ l → l ≤ length (set lanes (tag.lane - 1) kept) → (l ≡ tag.lane) ⊎ (l ≢ tag.lane)
        → replies_at (set lanes (tag.lane - 1) kept) l ≡ replies_of more l
    by l from upto (inl e) = ap (replies_at (set lanes (tag.lane - 1) kept)) e
        ∙ ap (λ lane. lane.replies) (get_or-set_same lanes (tag.lane - 1) kept no_lane (omega arith)) ∙ replies_are
        ∙ ap (λ r. r ++ reply ∷ []) (h.replies tag.lane low high) ∙ sym same ∙ ap (replies_of more) (sym e)
    by l from upto (inr differs) = ap (λ lane. lane.replies) (get_or-set_other lanes (tag.lane - 1) (l - 1) kept no_lane
        (λ e. differs (omega arith)))
        ∙ h.replies l from (subst (λ n. l ≤ n) (length-set lanes (tag.lane - 1) kept) upto) ∙ sym (others l differs)

    counted : (l : ℕ) → (l ≡ tag.lane) ⊎ (l ≢ tag.lane) → done_of (state_of more).done l ≡ length (replies_of more l)
    counted l (inl e) = ap (done_of (state_of more).done) e ∙ ap (λ d. done_of d tag.lane) state
        ∙ own_done (state_of story).done tag.lane ∙ ap (λ n. n + 1) (h.done tag.lane)
        ∙ sym (ap length same ∙ length-append (replies_of story tag.lane) (reply ∷ []))
        ∙ ap (λ k. length (replies_of more k)) (sym e)
    counted l (inr differs) = ap (λ d. done_of d l) state ∙ done_other (state_of story).done tag.lane l differs ∙ h.done l
        ∙ sym (ap length (others l differs))

    still : (l : ℕ) (one : Lane) → lane_at (state_of story).phase l ≡ Some one → (l ≡ tag.lane) ⊎ (l ≢ tag.lane)
        → commands_at (set lanes (tag.lane - 1) kept) l ≡ drop (done_of (state_of more).done l) one.commands
    still zero one is at = absurd (cc)
    still (suc n) one is (inl e) = ap (commands_at (set lanes (tag.lane - 1) kept)) e
        ∙ ap (λ lane. lane.commands) (get_or-set_same lanes (tag.lane - 1) kept no_lane (omega arith)) ∙ commands_are
        ∙ ap (drop 1) (h.left tag.lane one (ap (lane_at (state_of story).phase) (sym e) ∙ is))
        ∙ drop-drop 1 (done_of (state_of story).done tag.lane) one.commands
        ∙ ap (λ k. drop k one.commands) (sym (ap (λ d. done_of d (suc n)) state
        ∙ ap (done_of (with_done (state_of story).done tag.lane)) e ∙ own_done (state_of story).done tag.lane))
    still (suc n) one is (inr differs) = ap (λ lane. lane.commands) (get_or-set_other lanes (tag.lane - 1) (suc n - 1) kept
        no_lane (λ e. differs (omega arith)))
        ∙ h.left (suc n) one is ∙ ap (λ k. drop k one.commands) (sym (ap (λ d. done_of d (suc n)) state
        ∙ done_other (state_of story).done tag.lane (suc n) differs))

-- lanes with the same commands, the same replies and the same room
pub record SameReplies (old new : List LaneState) : Type 0 where
  pub count : length new ≡ length old
  pub commands : (lane : ℕ) → commands_at new lane ≡ commands_at old lane
  pub replies : (lane : ℕ) → replies_at new lane ≡ replies_at old lane
  pub room : (lane : ℕ) → room_at new lane ≡ room_at old lane

pub replies_are_same : (lanes : List LaneState) → SameReplies lanes lanes
replies_are_same lanes = record { count = refl; commands = λ lane. refl; replies = λ lane. refl; room = λ lane. refl }

pub same_where_set : (lanes : List LaneState) (lane : ℕ) (kept : LaneState) → 1 ≤ lane → lane ≤ length lanes
    → kept.replies ≡ replies_at lanes lane → kept.room ≡ room_at lanes lane → kept.commands ≡ commands_at lanes lane
    → SameReplies lanes (set lanes (lane - 1) kept)
same_where_set lanes lane kept low high replies room commands = record {
  count = length-set lanes (lane - 1) kept;
  commands = λ l. shared (λ k. k.commands) lanes (lane - 1) (l - 1) kept (omega arith) commands;
  replies = λ l. shared (λ k. k.replies) lanes (lane - 1) (l - 1) kept (omega arith) replies;
  room = λ l. shared (λ k. k.room) lanes (lane - 1) (l - 1) kept (omega arith) room;
}

-- a step that replies nothing
pub replies_stay : (story : List StoryStep) (x : StoryStep) (lanes more : List LaneState) → AreReplies story lanes
    → SameReplies lanes more → ((l : ℕ) → replies_after (state_of story) x (replies_of story) l ≡ replies_of story l)
    → (after (state_of story) x).done ≡ (state_of story).done → (after (state_of story) x).phase ≡ (state_of story).phase
    → AreReplies (story ++ x ∷ []) more
replies_stay story x lanes more h same said done phase =
    let grown : (l : ℕ) → replies_of (story ++ x ∷ []) l ≡ replies_of story l =
    λ l. ap (λ f. f l) (replies_from-more start no_replies story x) ∙ said l in
    let state : (state_of (story ++ x ∷ [])).done ≡ (state_of story).done = ap (λ s. s.done) (state_from-more start story x)
    ∙ done in
    let same_phase : (state_of (story ++ x ∷ [])).phase ≡ (state_of story).phase =
    ap (λ s. s.phase) (state_from-more start story x) ∙ phase in
    record {
      count = same.count ∙ h.count ∙ ap (λ p. length p.lanes) (sym same_phase);
      replies = λ lane low high. same.replies lane ∙ h.replies lane low (omega (arith, high, same.count)) ∙ sym (grown lane);
      done = λ lane. ap (λ d. done_of d lane) state ∙ h.done lane ∙ sym (ap length (grown lane));
      room = λ lane one is. omega (arith, h.room lane one (ap (λ p. lane_at p lane) (sym same_phase) ∙ is), same.room lane);
      left = λ lane one is. same.commands lane ∙ h.left lane one (ap (λ p. lane_at p lane) (sym same_phase) ∙ is)
          ∙ ap (λ k. drop k one.commands) (sym (ap (λ d. done_of d lane) state));
    }

-- What a core keeps after one more step of its story: one lemma for each kind of step.
use Rattle.std.proofs.Common.{◌≡◌, ℕ, ◌+◌, ◌-◌, ◌≤◌, Some, None, List, [], ◌∷◌, ◌++◌, drop, length, set, refl, ap, sym}
use Rattle.std.proofs.Common.{subst, ◌∙◌, arith}
use Rattle.std.specs.FinMap.Entries.{put}
use Rattle.std.specs.Ordering.{nat_cmp}
use Rattle.std.specs.Prelude.{is_some}
use Rattle.cc_names.specs.declared.commands.Phase.{Phase}
use Rattle.cc_names.specs.declared.replies.Reply.{Reply}
use Rattle.cc_names.specs.declared.rows.Tag.{Tag}
use Rattle.cc_names.specs.declared.steps.StoryStep.{StoryStep}
use Rattle.build_core.specs.Slots.{numbered_slots}
use Rattle.disk_model.specs.DiskStates.{DiskState}
use Rattle.base_model.specs.Fits.{row_limit}
use Rattle.base_model.specs.Rows.{Base}
use Rattle.legal_history.specs.Builds.Active.{Build, build_of, rows_reserved}
use Rattle.legal_history.specs.Stories.Lawful.{Lawful}
use Rattle.legal_history.specs.Stories.States.{State, start, done_of, with_done}
use Rattle.legal_history.specs.Stories.Steps.{after, state_of}
use Rattle.base_core.specs.Calls.Building.{BuildInvariant}
use Rattle.clearmake.specs.Going.{SamePhase}
use Rattle.base_core.specs.Keeping.CoreInvariants.{StoryInvariant, PhaseInvariant, AreBuilds, CoreInvariant}
use Rattle.base_core.specs.Keeping.Lanes.{LaneState, lane_state, commands_at, replies_at, builds_in, with_reply, put_build}
use Rattle.story_log.specs.Logging.Logs.{Logged}
use Rattle.story_log.specs.Stopping.Tails.{Tail}
use Rattle.story_log.specs.Story.Formed.{NamesOnly}
use Rattle.cc_names.specs.Formed.{IsFormed}
use Rattle.legal_history.proofs.Stories.Grows.{stays_opened}
use Rattle.base_core.specs.Story.Replying.{in_lane, replies_after, replies_of}
use Rattle.build_core.proofs.SlotLaws.{put_numbered}
use Rattle.story_log.proofs.Story.Growing.{state_from-more, legal_more}
use Rattle.base_core.proofs.Keeping.Idle.{not_both}
use Rattle.story_log.proofs.Cases.{some_same}
use Rattle.base_core.proofs.Keeping.PreservedBuilds.{KeepsRows, stays, builds_stay, builds_put}
use Rattle.base_core.proofs.Keeping.PreservedReplies.{replies_more, replies_stay, same_where_set}
use Rattle.base_core.proofs.Keeping.LaneCounts.{done_other}
use Rattle.base_core.proofs.Keeping.LaneSets.{builds_count, builds_same, builds_set}
use Rattle.base_core.proofs.Keeping.LaneSlots.{slot_of}
use Rattle.story_log.proofs.Story.Naming.{names_more}
use Rattle.base_core.proofs.Keeping.Reserving.{rows_for}

-- the log with one more step, which leads to this base
abbrev pub log_more : Logged → StoryStep → Base → DiskState → Tail → Logged
log_more log x base ghost_state tail = record {
  story = log.story ++ x ∷ [];
  base = base;
  phases = log.phases;
  ghost_state = ghost_state;
  tail = tail;
}

-- a lawful step that leads to this base, and names formed rows alone
pub record MayTell (s : State) (x : StoryStep) (base : Base) : Type 0 where
  pub lawful : Lawful s x
  pub names : NamesOnly IsFormed x
  pub leads : (after s x).base ≡ base

-- the story
pub story_more : (log : Logged) (x : StoryStep) (base : Base) (ghost_state : DiskState) (tail : Tail) → StoryInvariant log
    → MayTell (state_of log.story) x base → StoryInvariant (log_more log x base ghost_state tail)
story_more log x base ghost_state tail h may =
    let more : state_of (log.story ++ x ∷ []) ≡ after (state_of log.story) x = state_from-more start log.story x in
    record {
      legal = legal_more start log.story x h.legal may.lawful;
      opened = ap (λ t. is_some t.opened) more ∙ stays_opened (state_of log.story) x h.opened;
      base = ap (λ t. t.base) more ∙ may.leads;
      formed = names_more IsFormed log.story x h.formed may.names;
    }

-- the last phase
pub phase_stays : (s t : State) (phases : List Phase) (now : ℕ) → PhaseInvariant s phases now → SamePhase s t
    → PhaseInvariant t phases now
phase_stays s t phases now h same = record {
  phase = same.phase ∙ h.phase;
  number = same.number ∙ h.number;
  moment = same.moment ∙ h.moment;
  formed = h.formed;
  few = h.few;
  in_time = h.in_time;
}

-- A step with which a lane that does not build finishes its command.
pub record FinishesOne (story : List StoryStep) (x : StoryStep) (tag : Tag) (reply : Reply) : Type 0 where
  pub free : build_of (state_of story).active tag.lane ≡ None
  pub same : SamePhase (state_of story) (after (state_of story) x)
  pub rows : KeepsRows (state_of story) (after (state_of story) x)
  pub active : (after (state_of story) x).active ≡ (state_of story).active
  pub done : (after (state_of story) x).done ≡ with_done (state_of story).done tag.lane
  pub said : (l : ℕ) → replies_after (state_of story) x (replies_of story) l ≡ replies_of story l ++ in_lane l tag (Some reply)

pub preserved_finished : (log : Logged) (lanes : List LaneState) (now : ℕ) (x : StoryStep) (base : Base) (ghost_state : DiskState) (tail : Tail)
    (tag : Tag) (reply : Reply) → CoreInvariant log lanes now → 1 ≤ tag.lane → tag.lane ≤ length lanes
    → MayTell (state_of log.story) x base → FinishesOne log.story x tag reply
    → CoreInvariant (log_more log x base ghost_state tail) (with_reply lanes tag.lane reply) now
preserved_finished log lanes now x base ghost_state tail tag reply h low high may finishes = record {
  story = story_more log x base ghost_state tail h.story may;
  phase = subst (λ t. PhaseInvariant t log.phases now) (sym more) (phase_stays s (after s x) log.phases now h.phase
      finishes.same);
  replies = replies_more log.story x lanes tag reply kept h.replies low high finishes.said finishes.done finishes.same.phase refl
      refl refl;
  builds = subst (AreBuilds (state_of (log.story ++ x ∷ []))) (sym (builds_same lanes (tag.lane - 1) kept refl))
      (subst (λ t. AreBuilds t (builds_in lanes)) (sym more) (builds_stay s (after s x) (builds_in lanes) h.builds finishes.same
      finishes.rows finishes.active still));
}
  where
    s : State
    s = state_of log.story

    kept : LaneState
    kept = record (lane_state lanes tag.lane) {
      commands = drop 1 (commands_at lanes tag.lane);
      replies = replies_at lanes tag.lane ++ reply ∷ [];
    }

    more : state_of (log.story ++ x ∷ []) ≡ after s x
    more = state_from-more start log.story x

    still : (lane : ℕ) (build : Build) → build_of s.active lane ≡ Some build → done_of (after s x).done lane ≡ done_of s.done lane
    still lane build is = ap (λ d. done_of d lane) finishes.done ∙ done_other s.done tag.lane lane
        (λ e. not_both (build_of s.active lane) build (ap (build_of s.active) e ∙ finishes.free) is)

-- A step by which a lane has this build, and replies nothing.
pub record PutsBuild (story : List StoryStep) (x : StoryStep) (lane : ℕ) (build : Build) : Type 0 where
  pub same : SamePhase (state_of story) (after (state_of story) x)
  pub rows : KeepsRows (state_of story) (after (state_of story) x)
  pub active : (after (state_of story) x).active ≡ put nat_cmp lane build (state_of story).active
  pub done : (after (state_of story) x).done ≡ (state_of story).done
  pub said : (l : ℕ) → replies_after (state_of story) x (replies_of story) l ≡ replies_of story l
  pub kept : BuildInvariant (state_of story) lane build
  pub room : rows_reserved (state_of story).active + length build.units
      ≤ row_limit + rows_for (build_of (state_of story).active lane)

pub preserved_put : (log : Logged) (lanes : List LaneState) (now : ℕ) (x : StoryStep) (base : Base) (ghost_state : DiskState) (tail : Tail)
    (lane : ℕ) (build : Build) → CoreInvariant log lanes now → 1 ≤ lane → lane ≤ length lanes
    → MayTell (state_of log.story) x base → PutsBuild log.story x lane build
    → CoreInvariant (log_more log x base ghost_state tail) (put_build lanes lane (Some build)) now
preserved_put log lanes now x base ghost_state tail lane build h low high may puts = record {
  story = story_more log x base ghost_state tail h.story may;
  phase = subst (λ t. PhaseInvariant t log.phases now) (sym more) (phase_stays s (after s x) log.phases now h.phase puts.same);
  replies = replies_stay log.story x lanes (put_build lanes lane (Some build)) h.replies
      (same_where_set lanes lane kept low high refl refl refl) puts.said puts.done puts.same.phase;
  builds = subst (AreBuilds (state_of (log.story ++ x ∷ []))) (sym (builds_set lanes (lane - 1) kept))
      (subst (λ t. AreBuilds t (set (builds_in lanes) (lane - 1) (Some build))) (sym more)
      (builds_put s (after s x) (builds_in lanes) lane (Some build) h.builds low within puts.same puts.rows
      (λ other differs. ap (λ d. done_of d other) puts.done) active there
      (omega (arith, puts.room, ap rows_for (slot_of s (builds_in lanes) lane low h.builds.active)))));
}
  where
    s : State
    s = state_of log.story

    kept : LaneState
    kept = record (lane_state lanes lane) { build = Some build }

    more : state_of (log.story ++ x ∷ []) ≡ after s x
    more = state_from-more start log.story x

    within : lane ≤ length (builds_in lanes)
    within = omega (arith, high, builds_count lanes)

    active : (after s x).active ≡ numbered_slots 1 (set (builds_in lanes) (lane - 1) (Some build))
    active = puts.active ∙ ap (put nat_cmp lane build) h.builds.active
        ∙ put_numbered lane 1 (lane - 1) build (builds_in lanes) (omega arith) (omega (arith, within))

    there : (one : Build) → Some build ≡ Some one → BuildInvariant (after s x) lane one
    there one e = subst (BuildInvariant (after s x) lane) (some_same build one e)
        (stays s (after s x) lane build puts.same puts.rows (ap (λ d. done_of d lane) puts.done) puts.kept)

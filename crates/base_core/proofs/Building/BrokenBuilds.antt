-- What a core keeps, and how the story went on, where the disk failed under a lane's build, which ends with that.
use Rattle.std.proofs.Common.{◌≡◌, ℕ, ◌-◌, ◌≤◌, true, Option, Some, None, List, [], ◌∷◌, ◌++◌, append_assoc}
use Rattle.std.proofs.Common.{drop, length, set, refl, ap, ap₂, sym, subst, ◌∙◌, arith}
use Rattle.std.proofs.lemmas.List.{append-nil, set-set}
use Rattle.std.specs.Ordering.{nat_cmp}
use Rattle.std.specs.FinMap.Entries.{put}
use Rattle.cc_names.specs.Formed.{Plain, IsFormed}
use Rattle.cc_names.specs.declared.replies.Reply.TheVariants as replies
use Rattle.cc_names.specs.declared.rows.Tag.{Tag}
use Rattle.cc_names.specs.declared.steps.StoryStep.{StoryStep}
use Rattle.cc_names.specs.declared.steps.StoryStep.TheVariants as story_steps
use Rattle.base_model.proofs.Tables.{find_put_same}
use Rattle.cc_names.proofs.Common.{or_true}
use Rattle.build_core.specs.Slots.{numbered_slots}
use Rattle.legal_history.specs.Builds.Active.{Build, build_of}
use Rattle.legal_history.specs.Builds.Turns.{is_complete}
use Rattle.legal_history.specs.Stories.Committing.{LeavesRow, MayCommit}
use Rattle.legal_history.specs.Stories.Lawful.{EndsBuild}
use Rattle.legal_history.specs.Stories.States.{State, Faulted, start, done_of, with_done, next_tag, build_by}
use Rattle.legal_history.specs.Stories.Steps.{after, state_of, done_by_fault, faulted_in, without_build}
use Rattle.legal_history.proofs.Stories.LaterSteps.{own_done}
use Rattle.story_log.specs.Logging.Appending.{IsFaulted}
use Rattle.base_core.specs.Calls.Building.{BuildInvariant}
use Rattle.clearmake.specs.Going.{SamePhase, Finishes}
use Rattle.base_core.specs.Keeping.CoreInvariants.{StoryInvariant, PhaseInvariant, AreReplies, AreBuilds, CoreInvariant}
use Rattle.base_core.specs.Keeping.Lanes.{LaneState, lane_state, commands_at, replies_at, builds_in, with_closed}
use Rattle.story_log.specs.Logging.Logs.{Logged, with_step, with_fault}
use Rattle.story_log.specs.Stopping.Tails.{tail_after_fault}
use Rattle.base_core.specs.Story.Replying.{in_lane, reply_to_fault, reply_to_end, replies_of}
use Rattle.build_core.proofs.SlotLaws.{put_numbered, without_numbered}
use Rattle.base_core.proofs.Building.Closing.{build_is_by, builds_closed}
use Rattle.base_core.proofs.Acting.Faulting.{leaves_so}
use Rattle.story_log.proofs.Story.Growing.{state_from-more}
use Rattle.base_core.proofs.Keeping.PreservedBuilds.{same_rows}
use Rattle.base_core.proofs.Keeping.PreservedReplies.{replies_more, replies_stay, replies_are_same}
use Rattle.base_core.proofs.Keeping.PreservedSteps.{phase_stays, story_more}
use Rattle.base_core.proofs.Keeping.LaneCounts.{done_other}
use Rattle.base_core.proofs.Keeping.LaneSets.{builds_count}
use Rattle.base_core.proofs.Keeping.LaneSlots.{lane_slot}
use Rattle.story_log.proofs.Story.Naming.{left_named}
use Rattle.base_core.proofs.Building.UnitRows.{Gives}

-- a build under which the disk failed
abbrev pub broken : Build → Build
broken build = record build { faulted = true }

-- the state after a fault under a lane's build
abbrev pub broken_state : State → ℕ → Build → Option Plain → ℕ → ℕ → State
broken_state s lane build left faults tick = record s {
  active = put nat_cmp lane (broken build) s.active;
  ends = Faulted left faults tick ∷ s.ends;
}

pub after_fault : (s : State) (lane : ℕ) (build : Build) (left : Option Plain) (before faults tick : ℕ)
    → build_by s (next_tag s lane) ≡ Some build → after s (story_steps.Fault (next_tag s lane) left before faults tick)
    ≡ broken_state s lane build left faults tick
after_fault s lane build left before faults tick is = ap (λ o. record s {
  done = done_by_fault s.done lane o;
  active = faulted_in s.active lane o;
  ends = Faulted left faults tick ∷ s.ends;
}) is

-- what is kept after a fault under a lane's build, and after the end of it
preserved_broken : (log new : Logged) (lanes : List LaneState) (now lane : ℕ) (build : Build) (row : Plain)
    → IsFaulted log new row (Some (story_steps.End (next_tag (state_of log.story) lane))) → CoreInvariant log lanes now → 1 ≤ lane
    → lane ≤ length lanes → build_of (state_of log.story).active lane ≡ Some build
    → row.tag ≡ next_tag (state_of log.story) lane → MayCommit (state_of log.story) row
    → CoreInvariant new (with_closed lanes lane replies.DiskFault) now
preserved_broken log new lanes now lane build row faulted h low high is tagged may =
    subst (λ l. CoreInvariant l (with_closed lanes lane replies.DiskFault) now) (sym grows) (record {
      story = story_more failed end log.base faulted.ghost_state failed.tail story_with_fault (record
          { lawful = subst (λ t. EndsBuild t tag) (sym state1) ends; names = tt; leads = story_with_fault.base });
      phase = subst (λ t. PhaseInvariant t log.phases now) (sym state2)
          (phase_stays s (after s1 end) log.phases now h.phase same);
      replies = replies_more story' end lanes tag replies.DiskFault (record (lane_state lanes lane)
          { commands = drop 1 (commands_at lanes lane); replies = replies_at lanes lane ++ replies.DiskFault ∷ []; build = None })
          so_far low high
          (λ l. ap (λ t. replies_of story' l ++ in_lane l tag (reply_to_end t.base (build_by t tag))) state1
          ∙ ap (λ o. replies_of story' l ++ in_lane l tag (reply_to_end s.base o)) by_tag1)
          refl refl refl refl refl;
      builds = subst (λ t. AreBuilds t (builds_in (with_closed lanes lane replies.DiskFault))) (sym state2)
          (builds_closed s (after s1 end) lanes lane replies.DiskFault h.builds low high same (same_rows s (after s1 end) refl)
          refl
          active);
    })
  where
    s : State
    s = state_of log.story

    tag : Tag
    tag = next_tag s lane

    fault : StoryStep
    fault = story_steps.Fault tag faulted.found faulted.before faulted.faults faulted.tick

    end : StoryStep
    end = story_steps.End tag

    failed : Logged
    failed = with_fault log fault faulted.ghost_state faulted.left

    grows : new ≡ with_step failed (story_steps.End tag)
    grows = faulted.grows ∙ ap (λ t. with_step (with_fault log (story_steps.Fault t faulted.found faulted.before faulted.faults
        faulted.tick) faulted.ghost_state faulted.left) (story_steps.End tag)) tagged

    story' : List StoryStep
    story' = log.story ++ fault ∷ []

    kept : BuildInvariant s lane build
    kept = h.builds.kept lane build is

    s1 : State
    s1 = broken_state s lane build faulted.found faulted.faults faulted.tick

    by_tag : build_by s tag ≡ Some build
    by_tag = build_is_by s lane build is kept.tag

    by_tag1 : build_by s1 tag ≡ Some (broken build)
    by_tag1 = build_is_by s1 lane (broken build) (find_put_same lane (broken build) s.active) kept.tag

    story_with_fault : StoryInvariant failed
    story_with_fault = story_more log fault log.base faulted.ghost_state (tail_after_fault log.tail faulted.left) h.story (record {
      lawful = record {
        wanted = record { row = row; of_tag = tagged; may = may };
        rose = faulted.rose;
        later = faulted.later;
        leaves = subst (λ t. LeavesRow s t faulted.found) tagged (leaves_so s row faulted.found may faulted.leaves);
        ticked = faulted.ticked;
      };
      names = left_named IsFormed log.story row faulted.found faulted.leaves faulted.formed h.story.formed;
      leads = h.story.base;
    })

    ends : EndsBuild s1 tag
    ends = record { build = broken build; active = by_tag1; over = or_true (is_complete (broken build)) }

    state1 : state_of story' ≡ s1
    state1 = state_from-more start log.story fault ∙ after_fault s lane build faulted.found faulted.before faulted.faults
        faulted.tick by_tag

    state2 : state_of (story' ++ end ∷ []) ≡ after s1 end
    state2 = state_from-more start story' end ∙ ap (λ t. after t end) state1

    same : SamePhase s (after s1 end)
    same = record { phase = refl; number = refl; moment = refl }

    so_far : AreReplies story' lanes
    so_far = replies_stay log.story fault lanes lanes h.replies (replies_are_same lanes)
        (λ l. ap (λ o. replies_of log.story l ++ in_lane l tag (reply_to_fault o)) by_tag ∙ append-nil (replies_of log.story l))
        (ap (λ o. done_by_fault s.done lane o) by_tag) refl

    active : (after s1 end).active ≡ numbered_slots 1 (set (builds_in lanes) (lane - 1) None)
    active = ap (λ a. without_build (put nat_cmp lane (broken build) a) lane) h.builds.active
        ∙ ap (λ a. without_build a lane) (put_numbered lane 1 (lane - 1) (broken build) (builds_in lanes) (omega arith)
        (omega (arith, high, builds_count lanes)))
        ∙ without_numbered lane 1 (lane - 1) (set (builds_in lanes) (lane - 1) (Some (broken build))) (omega arith)
        ∙ ap (numbered_slots 1) (set-set (builds_in lanes) (lane - 1) (Some (broken build)) None)

-- how the story went on
broken_finishes : (log new : Logged) (story : List StoryStep) (lane : ℕ) (build : Build) (row : Plain) (tag : Tag)
    → IsFaulted log new row (Some (story_steps.End tag)) → log.story ≡ story
    → build_by (state_of story) (next_tag (state_of story) lane) ≡ Some build → row.tag ≡ tag
    → tag ≡ next_tag (state_of story) lane → Finishes story new.story lane
broken_finishes log new story lane build row tag faulted same is own tagged = record {
  steps = fault ∷ end ∷ [];
  grows = grows ∙ append_assoc story (fault ∷ []) (end ∷ []);
  one = (ap (λ (t : Tag). t.lane) tagged, refl);
  phase = record { phase = ap (λ t. t.phase) state; number = ap (λ t. t.number) state; moment = ap (λ t. t.moment) state };
  done = ap (λ t. done_of t.done lane) state ∙ own_done s.done lane;
  others = λ other differs. ap (λ t. done_of t.done other) state ∙ done_other s.done lane other differs;
}
  where
    s : State
    s = state_of story

    fault : StoryStep
    fault = story_steps.Fault tag faulted.found faulted.before faulted.faults faulted.tick

    end : StoryStep
    end = story_steps.End tag

    s1 : State
    s1 = broken_state s lane build faulted.found faulted.faults faulted.tick

    grows : new.story ≡ (story ++ fault ∷ []) ++ end ∷ []
    grows = ap (λ l. l.story) faulted.grows
        ∙ ap₂ (λ t of_row. (t ++ story_steps.Fault of_row faulted.found faulted.before faulted.faults faulted.tick ∷ [])
        ++ end ∷ []) same own

    state1 : state_of (story ++ fault ∷ []) ≡ s1
    state1 = state_from-more start story fault
        ∙ ap (λ t. after s (story_steps.Fault t faulted.found faulted.before faulted.faults faulted.tick)) tagged
        ∙ after_fault s lane build faulted.found faulted.before faulted.faults faulted.tick is

    state : state_of new.story ≡ record s1 {
      done = with_done s.done lane;
      active = without_build s1.active lane;
    }
    state = ap state_of grows ∙ state_from-more start (story ++ fault ∷ []) end
        ∙ ap (λ t. after t end) state1
        ∙ ap (λ t. record s1 { done = with_done s.done t.lane; active = without_build s1.active t.lane }) tagged

-- what is kept where a row that was to give a unit an object was not committed
pub preserved_broken_object : (log new : Logged) (lanes : List LaneState) (now lane n : ℕ) (row : Plain) (object : ℕ) (tag : Tag)
    → IsFaulted log new row (Some (story_steps.End tag)) → CoreInvariant log lanes now → Gives (state_of log.story) lane n row object
    → tag ≡ next_tag (state_of log.story) lane → CoreInvariant new (with_closed lanes lane replies.DiskFault) now
preserved_broken_object log new lanes now lane n row object tag faulted h g tagged =
    let slot = lane_slot log lanes now lane g.build h g.active in
    preserved_broken log new lanes now lane g.build row (subst (λ t. IsFaulted log new row (Some (story_steps.End t))) tagged faulted) h
    slot.from slot.upto g.active g.of_tag g.may

-- how the story went on
pub broken_object_finishes : (log new : Logged) (lanes : List LaneState) (now : ℕ) (story : List StoryStep) (lane n : ℕ)
    (row : Plain) (object : ℕ) (tag : Tag) → IsFaulted log new row (Some (story_steps.End tag)) → log.story ≡ story
    → CoreInvariant log lanes now → Gives (state_of log.story) lane n row object → tag ≡ next_tag (state_of log.story) lane
    → Finishes story new.story lane
broken_object_finishes log new lanes now story lane n row object tag faulted same h g tagged =
    let s = state_of log.story in
    let by_tag = build_is_by s lane g.build g.active (h.builds.kept lane g.build g.active).tag in
    subst (λ t. Finishes t new.story lane) same
    (broken_finishes log new log.story lane g.build row tag faulted refl by_tag (g.of_tag ∙ sym tagged) tagged)

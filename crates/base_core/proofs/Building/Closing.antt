-- What a core keeps after the end of a build.
use Rattle.std.proofs.Common.{◌≡◌, ℕ, ◌-◌, ◌≤◌, true, ◌||◌, Option, Some, None, List, [], ◌∷◌, ◌++◌, drop, length, set, refl, ap}
use Rattle.std.proofs.Common.{sym, subst, ◌∙◌, arith}
use Rattle.std.specs.Prelude.{if◌then◌else◌}
use Rattle.cc_names.specs.declared.replies.Reply.{Reply}
use Rattle.cc_names.specs.declared.replies.Reply.TheVariants as replies
use Rattle.cc_names.specs.declared.rows.Tag.{Tag}
use Rattle.cc_names.specs.declared.steps.StoryStep.{StoryStep}
use Rattle.cc_names.specs.declared.steps.StoryStep.TheVariants as story_steps
use Rattle.build_core.specs.Slots.{numbered_slots}
use Rattle.legal_history.specs.Builds.Replied.{reply_of}
use Rattle.base_model.specs.Rows.{only_where}
use Rattle.legal_history.specs.Builds.Active.{Build, build_of}
use Rattle.legal_history.specs.Stories.States.{State, start, done_of, with_done, same_tag, next_tag, build_by}
use Rattle.legal_history.specs.Stories.Steps.{after, state_of, without_build}
use Rattle.legal_history.specs.Builds.Turns.{is_complete}
use Rattle.base_core.specs.Calls.Building.{BuildInvariant}
use Rattle.clearmake.specs.Going.{SamePhase}
use Rattle.base_core.specs.Keeping.CoreInvariants.{AreBuilds, PhaseInvariant, CoreInvariant}
use Rattle.base_core.specs.Keeping.Lanes.{LaneState, lane_state, commands_at, replies_at, builds_in, with_closed}
use Rattle.story_log.specs.Logging.Logs.{Logged, with_step}
use Rattle.base_core.specs.Story.Replying.{in_lane, reply_to_end, replies_of}
use Rattle.build_core.proofs.SlotLaws.{without_numbered}
use Rattle.story_log.proofs.Story.Growing.{state_from-more}
use Rattle.base_core.proofs.Keeping.PreservedBuilds.{KeepsRows, same_rows, builds_put}
use Rattle.base_core.proofs.Keeping.PreservedReplies.{replies_more}
use Rattle.base_core.proofs.Keeping.PreservedSteps.{phase_stays, story_more}
use Rattle.base_core.proofs.Keeping.LaneCounts.{done_other}
use Rattle.base_core.proofs.Keeping.LaneSets.{builds_count, builds_set}
use Rattle.base_core.proofs.Acting.NextCommands.{same_as_itself}

-- a lane's build is that of its command
pub build_is_by : (s : State) (lane : ℕ) (build : Build) → build_of s.active lane ≡ Some build → build.tag ≡ next_tag s lane
    → build_by s (next_tag s lane) ≡ Some build
build_is_by s lane build is tag =
    ap (λ o. elim o as (λ _. Option Build) [ None ↦ None | Some b ↦ only_where (same_tag b.tag (next_tag s lane)) (Some b) ]) is
    ∙ ap (λ t. only_where (same_tag t (next_tag s lane)) (Some build)) tag
    ∙ ap (λ c. only_where c (Some build)) (same_as_itself (next_tag s lane))

-- a lane without a build, which it had, is kept as the others are
pub builds_closed : (s t : State) (lanes : List LaneState) (lane : ℕ) (reply : Reply) → AreBuilds s (builds_in lanes) → 1 ≤ lane
    → lane ≤ length lanes → SamePhase s t → KeepsRows s t → t.done ≡ with_done s.done lane
    → t.active ≡ numbered_slots 1 (set (builds_in lanes) (lane - 1) None)
    → AreBuilds t (builds_in (with_closed lanes lane reply))
builds_closed s t lanes lane reply h low high same rows done active =
    subst (AreBuilds t) (sym (builds_set lanes (lane - 1) (record (lane_state lanes lane)
    { commands = drop 1 (commands_at lanes lane); replies = replies_at lanes lane ++ reply ∷ []; build = None })))
    (builds_put s t (builds_in lanes) lane None h low (omega (arith, high, builds_count lanes)) same rows
    (λ other differs. ap (λ d. done_of d other) done ∙ done_other s.done lane other differs) active (λ one e. absurd (cc))
    (omega (arith, h.reserves)))

-- what is kept after the end of a lane's build, whose units all have their outcomes
pub preserved_end : (log : Logged) (lanes : List LaneState) (now lane : ℕ) (build : Build) → CoreInvariant log lanes now
    → 1 ≤ lane → lane ≤ length lanes → build_of (state_of log.story).active lane ≡ Some build → is_complete build ≡ true
    → CoreInvariant (with_step log (story_steps.End (next_tag (state_of log.story) lane)))
    (with_closed lanes lane (reply_of (state_of log.story).base build)) now
preserved_end log lanes now lane build h low high is over = record {
  story = story_more log x log.base log.ghost_state log.tail h.story (record {
    lawful = record {
      build = build;
      active = by_tag;
      over = ap (λ b. b || build.faulted) over;
    };
    names = tt;
    leads = h.story.base;
  });
  phase = subst (λ t. PhaseInvariant t log.phases now) (sym more) (phase_stays s (after s x) log.phases now h.phase same);
  replies = replies_more log.story x lanes tag reply (record (lane_state lanes lane) {
    commands = drop 1 (commands_at lanes lane);
    replies = replies_at lanes lane ++ reply ∷ [];
    build = None;
  }) h.replies low high
      (λ l. ap (λ r. replies_of log.story l ++ in_lane l tag r) replied) refl refl refl refl refl;
  builds = subst (λ t. AreBuilds t (builds_in (with_closed lanes lane reply))) (sym more)
      (builds_closed s (after s x) lanes lane reply h.builds low high same (same_rows s (after s x) refl) refl
      (ap (λ a. without_build a lane) h.builds.active ∙ without_numbered lane 1 (lane - 1) (builds_in lanes) (omega arith)));
}
  where
    s : State
    s = state_of log.story

    tag : Tag
    tag = next_tag s lane

    x : StoryStep
    x = story_steps.End tag

    reply : Reply
    reply = reply_of s.base build

    kept : BuildInvariant s lane build
    kept = h.builds.kept lane build is

    by_tag : build_by s tag ≡ Some build
    by_tag = build_is_by s lane build is kept.tag

    replied : reply_to_end s.base (build_by s tag) ≡ Some reply
    replied = ap (reply_to_end s.base) by_tag ∙ ap (λ f. Some (if f then replies.DiskFault else reply)) kept.faultless

    more : state_of (log.story ++ x ∷ []) ≡ after s x
    more = state_from-more start log.story x

    same : SamePhase s (after s x)
    same = record { phase = refl; number = refl; moment = refl }

-- What a core keeps after the begin of a phase.
use Rattle.std.proofs.Common.{◌≡◌, ℕ, zero, suc, ◌+◌, ◌-◌, ◌<◌, ◌≤◌, ◌^◌, true, Option, Some, None, List, [], ◌∷◌, ◌++◌}
use Rattle.std.proofs.Common.{append_assoc, drop, get_or, length, length-append, refl, ap, sym, subst, ◌∙◌, arith}
use Rattle.std.proofs.lemmas.List.{length-map}
use Rattle.std.specs.Prelude.{MatchOption, slice_get}
use Rattle.cc_names.specs.Commands.{lane_at}
use Rattle.cc_names.specs.declared.commands.Lane.{Lane}
use Rattle.cc_names.specs.declared.commands.Phase.{Phase}
use Rattle.cc_names.specs.declared.steps.StoryStep.{StoryStep}
use Rattle.cc_names.specs.declared.steps.StoryStep.TheVariants as story_steps
use Rattle.session_text.specs.Formed.{IsPhase}
use Rattle.build_core.specs.Slots.{numbered_slots}
use Rattle.legal_history.specs.Builds.Active.{build_of, rows_reserved}
use Rattle.legal_history.specs.Stories.Lawful.{last_moment}
use Rattle.legal_history.specs.Stories.States.{State, start, all_done, done_of}
use Rattle.legal_history.specs.Stories.Steps.{after, state_of}
use Rattle.base_core.specs.Keeping.CoreInvariants.{last_phase, command_limit, StoryInvariant, PhaseInvariant, AreBuilds}
use Rattle.base_core.specs.Keeping.CoreInvariants.{CoreInvariant}
use Rattle.base_core.specs.Keeping.Lanes.{LaneState, no_lane, builds_in, begun_lane, fresh_lanes, commands_at, room_at}
use Rattle.story_log.specs.Logging.Logs.{Logged, with_phase}
use Rattle.base_core.specs.Story.Replying.{no_replies}
use Rattle.story_log.proofs.Story.Growing.{state_from-more}
use Rattle.base_core.proofs.Story.Growing.{replies_from-more}
use Rattle.base_core.proofs.Keeping.Idle.{nobody_builds}
use Rattle.story_log.proofs.Cases.{some_same}
use Rattle.base_core.proofs.Keeping.PreservedSteps.{log_more, story_more}
use Rattle.base_core.proofs.Keeping.LaneSets.{builds_count}
use Rattle.base_core.proofs.Keeping.Phases.{last_phase-more}

-- fresh lanes have all their commands
fresh_commands : (lanes : List Lane) (i : ℕ) (one : Lane) → slice_get lanes i ≡ Some one
    → (get_or (fresh_lanes lanes) i no_lane).commands ≡ one.commands
fresh_commands [] i one is = absurd (cc)
fresh_commands (lane ∷ lanes) zero one is = ap (λ l. l.commands) (some_same lane one is)
fresh_commands (lane ∷ lanes) (suc i) one is = fresh_commands lanes i one is

-- fresh lanes have no replies and no builds, and room for a reply to each command
fresh_replies : (lanes : List Lane) (i : ℕ) → (get_or (fresh_lanes lanes) i no_lane).replies ≡ []
fresh_replies [] i = refl
fresh_replies (lane ∷ lanes) zero = refl
fresh_replies (lane ∷ lanes) (suc i) = fresh_replies lanes i

fresh_room : (lanes : List Lane) (i : ℕ) (one : Lane) → slice_get lanes i ≡ Some one
    → length one.commands ≤ (get_or (fresh_lanes lanes) i no_lane).room
fresh_room [] i one is = absurd (cc)
fresh_room (lane ∷ lanes) zero one is = omega (arith, ap (λ l. length l.commands) (some_same lane one is))
fresh_room (lane ∷ lanes) (suc i) one is = fresh_room lanes i one is

room_of_lane : (phase : Phase) (lane : ℕ) (one : Lane) → lane_at phase lane ≡ Some one
    → length one.commands ≤ room_at (fresh_lanes phase.lanes) lane
room_of_lane phase zero one is = absurd (cc)
room_of_lane phase (suc n) one is =
    let here : suc n - 1 ≡ n = omega arith in
    subst (λ i. length one.commands ≤ (get_or (fresh_lanes phase.lanes) i no_lane).room) (sym here)
    (fresh_room phase.lanes n one is)

left_of_lane : (phase : Phase) (lane : ℕ) (one : Lane) → lane_at phase lane ≡ Some one
    → commands_at (fresh_lanes phase.lanes) lane ≡ one.commands
left_of_lane phase zero one is = absurd (cc)
left_of_lane phase (suc n) one is =
    let here : suc n - 1 ≡ n = omega arith in
    subst (λ i. (get_or (fresh_lanes phase.lanes) i no_lane).commands ≡ one.commands) (sym here)
    (fresh_commands phase.lanes n one is)

fresh_builds : (k : ℕ) (lanes : List Lane) → numbered_slots k (builds_in (fresh_lanes lanes)) ≡ []
fresh_builds k [] = refl
fresh_builds k (lane ∷ lanes) = fresh_builds (k + 1) lanes

-- what is kept after the begin of a phase
pub preserved_plan : (log : Logged) (lanes : List LaneState) (now moment : ℕ) (phase : Phase) → CoreInvariant log lanes now
    → all_done (state_of log.story) ≡ true → IsPhase command_limit phase → length log.phases + 1 < 2 ^ 32 → moment ≤ last_moment
    → CoreInvariant (with_phase log phase moment) (fresh_lanes phase.lanes) moment
preserved_plan log lanes now moment phase h finished formed few in_time = record {
  story = record {
    legal = story_with_phase.legal;
    opened = story_with_phase.opened;
    base = story_with_phase.base;
    formed = story_with_phase.formed;
  };
  phase = subst (λ t. PhaseInvariant t (log.phases ++ phase ∷ []) moment) (sym more) (record {
    phase = sym last;
    number = omega (arith, h.phase.number, length-append log.phases (phase ∷ []));
    moment = refl;
    formed = subst (IsPhase command_limit) (sym last) formed;
    few = omega (arith, few, length-append log.phases (phase ∷ []));
    in_time = in_time;
  });
  replies = record {
    count = fresh_count ∙ ap (λ t. length t.phase.lanes) (sym more);
    replies = λ lane low high. fresh_replies phase.lanes (lane - 1) ∙ sym
        (ap (λ f. f lane) (replies_from-more start no_replies log.story x));
    done = λ lane. ap (λ t. done_of t.done lane) more ∙ sym (ap (λ f. length (f lane))
        (replies_from-more start no_replies log.story x));
    room = λ lane one is. room_of_lane phase lane one (ap (λ t. lane_at t.phase lane) (sym more) ∙ is);
    left = λ lane one is. left_of_lane phase lane one (ap (λ t. lane_at t.phase lane) (sym more) ∙ is)
        ∙ ap (λ k. drop k one.commands) (sym (ap (λ t. done_of t.done lane) more));
  };
  builds = subst (λ t. AreBuilds t (builds_in (fresh_lanes phase.lanes))) (sym more) (record {
    count = builds_count (fresh_lanes phase.lanes) ∙ fresh_count;
    active = nobody ∙ sym (fresh_builds 1 phase.lanes);
    kept = λ lane build is. absurd (let none : build_of (after s x).active lane ≡ None = ap (λ a. build_of a lane) nobody in cc);
    reserves = omega (arith, ap rows_reserved nobody);
  });
}
  where
    s : State
    s = state_of log.story

    x : StoryStep
    x = story_steps.PhaseBegun phase moment

    more : state_of (log.story ++ x ∷ []) ≡ after s x
    more = state_from-more start log.story x

    last : last_phase (log.phases ++ phase ∷ []) ≡ phase
    last = last_phase-more log.phases phase

    nobody : s.active ≡ []
    nobody = nobody_builds log lanes now h finished

    fresh_count : length (fresh_lanes phase.lanes) ≡ length phase.lanes
    fresh_count = length-map phase.lanes _

    story_with_phase : StoryInvariant (log_more log x log.base log.ghost_state log.tail)
    story_with_phase = story_more log x log.base log.ghost_state log.tail h.story
        (record {
          lawful = record { opened = h.story.opened; finished = finished; in_time = in_time };
          names = tt;
          leads = h.story.base;
        })

-- the next of the lanes that are left
pub next_lane : (found : Option Lane) (lane : Lane) (old new : List Lane)
    → MatchOption found ((old ≡ []) × (new ≡ [])) (λ one. old ≡ one ∷ new) → found ≡ Some lane → old ≡ lane ∷ new
next_lane None lane old new h e = absurd (cc)
next_lane (Some one) lane old new h e = let same : one ≡ lane = cc in h ∙ ap (λ l. l ∷ new) same

-- one more lane begins
pub more_lanes : (all : List Lane) (prefix : List LaneState) (lane : Lane) (left before : List Lane) (kept : LaneState)
    → fresh_lanes all ≡ prefix ++ fresh_lanes before → before ≡ lane ∷ left → kept ≡ begun_lane lane
    → fresh_lanes all ≡ (prefix ++ kept ∷ []) ++ fresh_lanes left
more_lanes all prefix lane left before kept h e is =
    h ∙ ap (λ v. prefix ++ fresh_lanes v) e ∙ ap (λ k. prefix ++ k ∷ fresh_lanes left) (sym is)
    ∙ sym (append_assoc prefix (kept ∷ []) (fresh_lanes left))

-- Where nobody builds, and where a lane does not.
use Rattle.std.proofs.Common.{◌≡◌, ℕ, zero, suc, ◌+◌, ◌==◌, Bool, true, false, ◌&&◌, Option, Some, None, Result, List, [], ◌∷◌}
use Rattle.std.proofs.Common.{length, refl, ap, sym, subst, ◌∙◌, arith}
use Rattle.std.specs.Prelude.{IsSome, option_and_then, option_map, is_none, slice_get}
use Rattle.std.proofs.lemmas.Bool.{eqb-true, and_parts}
use Rattle.std.proofs.lemmas.Option.{slice_get_past}
use Rattle.cc_names.specs.Commands.{lane_at}
use Rattle.cc_names.specs.declared.commands.Command.{Command}
use Rattle.cc_names.specs.declared.commands.Lane.{Lane}
use Rattle.cc_names.specs.declared.occasions.Next.TheVariants as nexts
use Rattle.cc_names.specs.declared.refusals.Refusal.{Refusal}
use Rattle.cc_names.specs.declared.rows.Tag.{Tag}
use Rattle.build_core.specs.Slots.{numbered_slots, held_in}
use Rattle.base_model.specs.Rows.{only_where}
use Rattle.legal_history.specs.Builds.Active.{Build, build_of}
use Rattle.legal_history.specs.Commands.Decisions.{Decision}
use Rattle.legal_history.specs.Commands.Lines.{decision}
use Rattle.legal_history.specs.Stories.Commanded.{next_command_of}
use Rattle.legal_history.specs.Stories.States.{State, scene, done_of, command_behind, lanes_done, all_done, same_tag, next_tag}
use Rattle.legal_history.specs.Stories.States.{decision_for}
use Rattle.legal_history.specs.Stories.Steps.{state_of}
use Rattle.legal_history.proofs.Builds.CommandStays.{none_left}
use Rattle.base_core.specs.Keeping.CoreInvariants.{CoreInvariant}
use Rattle.base_core.specs.Keeping.Lanes.{LaneState, builds_in}
use Rattle.story_log.specs.Logging.Logs.{Logged}
use Rattle.clearmake.specs.Nexts.{next_by, next_of_lane}
use Rattle.build_core.proofs.SlotLaws.{find_numbered}

-- nothing is not something
pub not_both : {A : Type 0} (found : Option A) (a : A) → found ≡ None → found ≡ Some a → ⊥
not_both found a none some = cc

-- after the last command of a lane there is none
none_behind : (done : List (ℕ × ℕ)) (n i : ℕ) (lanes : List Lane) → lanes_done done n lanes ≡ true
    → option_and_then (command_behind (done_of done (n + i))) (slice_get lanes i) ≡ None
none_behind done n i [] h = refl
none_behind done n zero (lane ∷ lanes) h =
    let finished : done_of done n ≡ length lane.commands = eqb-true (done_of done n) (length lane.commands)
    (and_parts (done_of done n == length lane.commands) (lanes_done done (n + 1) lanes) h).0 in
    let here : n + 0 ≡ n = omega arith in
    ap (λ m. slice_get lane.commands (done_of done m)) here ∙ slice_get_past lane.commands (done_of done n)
    (omega (arith, finished))
none_behind done n (suc i) (lane ∷ lanes) h =
    let there : n + suc i ≡ (n + 1) + i = omega arith in
    ap (λ m. option_and_then (command_behind (done_of done m)) (slice_get lanes i)) there
    ∙ none_behind done (n + 1) i lanes (and_parts (done_of done n == length lane.commands) (lanes_done done (n + 1) lanes) h).1

-- slots that hold nothing have no numbers
none_numbered : {A : Type 0} (k : ℕ) (slots : List (Option A)) → ((i : ℕ) → held_in slots i ≡ None) → numbered_slots k slots ≡ []
none_numbered k [] h = refl
none_numbered k (None ∷ slots) h = none_numbered (k + 1) slots (λ i. h (suc i))
none_numbered k (Some a ∷ slots) h = absurd (let e = h zero in cc)

-- the build of a lane is the one in its slot
pub build_in_slot : (s : State) (builds : List (Option Build)) (i : ℕ) → s.active ≡ numbered_slots 1 builds
    → build_of s.active (suc i) ≡ held_in builds i
build_in_slot s builds i e = ap (λ active. build_of active (suc i)) e ∙ find_numbered (suc i) 1 i builds (omega arith)

-- where each command is finished, nobody builds
pub nobody_builds : (log : Logged) (lanes : List LaneState) (now : ℕ) → CoreInvariant log lanes now
    → all_done (state_of log.story) ≡ true → (state_of log.story).active ≡ []
nobody_builds log lanes now h finished = h.builds.active ∙ none_numbered 1 builds (λ i. by i (held_in builds i) refl)
  where
    builds : List (Option Build)
    builds = builds_in lanes

    by : (i : ℕ) (held : Option Build) → held_in builds i ≡ held → held ≡ None
    by i None is = refl
    by i (Some build) is =
        let kept = h.builds.kept (suc i) build (build_in_slot (state_of log.story) builds i h.builds.active ∙ is) in
        let waits : next_of_lane (state_of log.story) (suc i) ≡ nexts.Build (next_tag (state_of log.story) (suc i)) =
        kept.waits in
        let done : next_of_lane (state_of log.story) (suc i) ≡ nexts.Done =
        ap (λ command. next_by command (next_tag (state_of log.story) (suc i)))
        (none_left (state_of log.story) (suc i) finished) in
        absurd (cc)

-- a lane that is to act does not build
pub acting_is_free : (log : Logged) (lanes : List LaneState) (now lane : ℕ) → CoreInvariant log lanes now
    → next_of_lane (state_of log.story) lane ≡ nexts.Act → build_of (state_of log.story).active lane ≡ None
acting_is_free log lanes now lane h act = by (build_of (state_of log.story).active lane) refl
  where
    by : (found : Option Build) → build_of (state_of log.story).active lane ≡ found → found ≡ None
    by None is = refl
    by (Some build) is = let waits : next_of_lane (state_of log.story) lane ≡ nexts.Build (next_tag (state_of log.story) lane) =
        (h.builds.kept lane build is).waits in absurd (cc)

-- nor does the lane of a command of which something is decided
pub decided_is_free : (s : State) (tag : Tag) (result : Result Decision Refusal) → decision_for s tag ≡ Some result
    → build_of s.active tag.lane ≡ None
decided_is_free s tag result e = by (same_tag tag (next_tag s tag.lane)) (build_of s.active tag.lane) refl refl e
  where
    command : Option Command
    command = option_and_then (command_behind (done_of s.done tag.lane)) (lane_at s.phase tag.lane)

    by : (same : Bool) (found : Option Build) → same_tag tag (next_tag s tag.lane) ≡ same → build_of s.active tag.lane ≡ found
        → option_map (decision (scene s)) (only_where (same && is_none found) command) ≡ Some result → found ≡ None
    by same None is none e = refl
    by true (Some build) is some e = absurd (cc)
    by false (Some build) is some e = absurd (cc)

-- and that lane waits with a command
pub decided_waits : (s : State) (tag : Tag) (result : Result Decision Refusal) → decision_for s tag ≡ Some result
    → IsSome (next_command_of s tag.lane)
decided_waits s tag result e = by (same_tag tag (next_tag s tag.lane) && is_none (build_of s.active tag.lane))
    (next_command_of s tag.lane) refl e
  where
    by : (free : Bool) (found : Option Command) → next_command_of s tag.lane ≡ found
        → option_map (decision (scene s)) (only_where free found) ≡ Some result → IsSome (next_command_of s tag.lane)
    by free (Some command) is e = subst IsSome (sym is) refl
    by true None is e = absurd (cc)
    by false None is e = absurd (cc)

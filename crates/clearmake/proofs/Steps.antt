-- What the calls of a service leave of what was known of a build.
use Rattle.std.proofs.Common.{◌≡◌, refl, ap, sym, subst, ◌∙◌, ℕ, ◌+◌, ◌<◌, ◌≤◌, ◌&&◌, Bool, true, false, inr, Some, List, []}
use Rattle.std.proofs.Common.{◌∷◌, length, arith}
use native.Mathlib.Decide.{dec_le}
use mathlib.Core.Logic.{dite}
use mathlib.Core.List.{IsPrefix}
use Rattle.turn_lock.proofs.Prefixes.{begins_itself}
use Rattle.cc_names.specs.declared.occasions.Next.TheVariants as nexts
use Rattle.cc_names.specs.declared.rows.Tag.{Tag}
use Rattle.cc_names.specs.declared.steps.StoryStep.{StoryStep}
use Rattle.cc_names.specs.declared.units.Unit as units
use Rattle.cc_names.proofs.Common.{same_inside}
use Rattle.legal_history.specs.Builds.Active.{Build, build_of, came_to, is_outcome}
use Rattle.legal_history.specs.Builds.Turns.{all_over}
use Rattle.legal_history.specs.Stories.Lawful.{Legal}
use Rattle.legal_history.specs.Stories.States.{State, done_of, next_tag}
use Rattle.legal_history.specs.Stories.Steps.{state_of}
use Rattle.clearmake.specs.Calls.{IsOver, WaitsFor}
use Rattle.clearmake.specs.Going.{Finishes, GoesOn, HasOutcome}
use Rattle.clearmake.specs.Nexts.{next_of_lane}
use Rattle.clearmake.specs.Passes.{AreDone, Builds, IsCommandPast}
use Rattle.clearmake.proofs.Later.{outcome_stays, still_builds}
use Rattle.clearmake.proofs.Nexts.{next_stays, tag_is_next}

pub goes_begins : (old new : List StoryStep) (lane : ℕ) → GoesOn old new lane → IsPrefix old new
goes_begins old new lane h = (h.steps, sym h.grows)

pub finishes_begins : (old new : List StoryStep) (lane : ℕ) → Finishes old new lane → IsPrefix old new
finishes_begins old new lane h = (h.steps, sym h.grows)

pub same_begins : (old new : List StoryStep) → new ≡ old → IsPrefix old new
same_begins old new e = subst (IsPrefix old) (sym e) (begins_itself old)

-- while a build goes on its command is the lane's next
pub next_goes_on : (old new : List StoryStep) (lane : ℕ) → GoesOn old new lane
    → next_of_lane (state_of new) lane ≡ next_of_lane (state_of old) lane
next_goes_on old new lane h = next_stays (state_of old) (state_of new) lane h.phase.number h.phase.phase
    (ap (λ done. done_of done lane) h.done)

pub builds_on : (old new : List StoryStep) (tag : Tag) (count : ℕ) → Builds old tag count → GoesOn old new tag.lane
    → Builds new tag count
builds_on old new tag count h on =
    let still = on.still h.building.build h.building.active in
    record {
      next = next_goes_on old new tag.lane on ∙ h.next;
      building = record {
        build = still.build;
        active = still.active;
        of_units = ap (λ us. length us) still.units
            ∙ h.building.of_units;
        few = h.building.few;
      };
    }

-- a command that is finished is past
pub finished_past : (old new : List StoryStep) (tag : Tag) → next_of_lane (state_of old) tag.lane ≡ nexts.Build tag
    → Finishes old new tag.lane → IsCommandPast (state_of new) tag
finished_past old new tag next h =
    let tags : next_tag (state_of old) tag.lane ≡ tag = tag_is_next (state_of old) tag.lane tag next in
    inr (
      sym (ap (λ (t : Tag). t.phase) tags) ∙ sym h.phase.number,
      (let more = h.done in
          let command : done_of (state_of old).done tag.lane + 1 ≡ tag.command = ap (λ (t : Tag). t.command) tags in omega arith),
    )

-- the first units that have their outcomes have them later on
pub done_later : (old new : List StoryStep) (tag : Tag) (count n : ℕ) → AreDone old tag count n → IsPrefix old new → Legal new →
    next_of_lane (state_of new) tag.lane ≡ nexts.Build tag → AreDone new tag count n
done_later old new tag count n h p legal still m below =
    let was = h m below in (
      still_builds old new tag count was.0 p legal still,
      outcome_stays old new tag m was.0.next p legal still was.1,
    )

-- with the next unit there is one more
pub done_more : (new : List StoryStep) (tag : Tag) (count n : ℕ) → AreDone new tag count n → Builds new tag count
    → HasOutcome (state_of new) tag.lane n → AreDone new tag count (n + 1)
done_more new tag count n h builds outcome m below =
    dite (dec_le (m + 1) n) (λ earlier. h m (omega arith)) (λ no. let last : m ≡ n = omega arith in
    (builds, subst (λ k. HasOutcome (state_of new) tag.lane k) (sym last) outcome))

-- the outcome of a lane's unit, of the build that is there
outcome_of : (s : State) (lane n : ℕ) (build : Build) → build_of s.active lane ≡ Some build → HasOutcome s lane n
    → is_outcome (came_to build n) ≡ true
outcome_of s lane n build active h = subst (λ b. is_outcome (came_to b n) ≡ true) (same_inside (sym h.active ∙ active)) h.outcome

-- nobody waits for a unit that has its outcome
pub waits_for_none : (s : State) (lane n m : ℕ) → WaitsFor s lane n m → HasOutcome s lane m → ⊥
waits_for_none s lane n m h outcome = let e = outcome_of s lane m h.build h.active outcome in let w = h.waits in absurd (cc)

over_from : (build : Build) (n : ℕ) (us : List units.Unit) → ((m : ℕ) → n ≤ m → m < n + length us
    → is_outcome (came_to build m) ≡ true) → all_over build n us ≡ true
over_from build n [] h = refl
over_from build n (unit ∷ us) h = both (is_outcome (came_to build n)) (all_over build (n + 1) us)
    (h n (omega arith) (omega arith)) (over_from build (n + 1) us (λ m low high. h m (omega arith) (omega arith)))
  where
    both : (a b : Bool) → a ≡ true → b ≡ true → (a && b) ≡ true
    both true b e f = f
    both false b e f = e

-- a build of so many units that all have their outcomes is over
pub is_over : (seen : List StoryStep) (tag : Tag) (count : ℕ) → Builds seen tag count → AreDone seen tag count count
    → IsOver (state_of seen) tag.lane
is_over seen tag count h done =
    let b = h.building in
    record {
      build = b.build;
      active = b.active;
      complete = over_from b.build 0 b.build.units (λ m low high. outcome_of (state_of seen) tag.lane m b.build b.active
          (done m (let count_is = b.of_units in omega arith)).1);
    }

-- what is given back begins with what was taken
pub taken_grown : (held old new : List StoryStep) → held ≡ old → IsPrefix old new → IsPrefix held new
taken_grown held old new same p = subst (λ (t : List StoryStep). IsPrefix t new) (sym same) p

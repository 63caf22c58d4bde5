-- A lawful step leads to a later state.
use Rattle.std.proofs.Common.{◌≡◌, refl, ap, sym, subst, ℕ, ◌+◌, ◌≤◌, Bool, true, false, ◌==◌, Option, Some, None, List, arith}
use Rattle.std.specs.Prelude.{unwrap_or}
use Rattle.cc_names.specs.declared.rows.Deed.{Deed}
use Rattle.cc_names.specs.declared.rows.Deed.TheVariants as deeds
use Rattle.cc_names.specs.declared.steps.StoryStep.{StoryStep}
use Rattle.cc_names.specs.declared.steps.StoryStep.TheVariants as story_steps
use Rattle.cc_names.proofs.Common.{same_number}
use Rattle.legal_history.specs.Builds.Active.{Build, build_of}
use Rattle.legal_history.specs.Stories.Growth.{GoesLater, StaysTheBuild, Over, On, StillBuilds}
use Rattle.legal_history.specs.Stories.States.{State, build_by, done_of, with_done}
use Rattle.legal_history.specs.Stories.Steps.{after, done_after, done_by_fault}
use Rattle.legal_history.specs.Stories.Lawful.{Lawful}
use Rattle.legal_history.specs.Laws.Ends.{IsLeft}
use Rattle.legal_history.proofs.Builds.CommandStays.{other_done}
use Rattle.base_model.proofs.Tables.{find_put_same}
use Rattle.legal_history.proofs.Stories.Goes.{step_goes}
use Rattle.legal_history.proofs.Stories.Leaving.{is_left}

-- a lane that finishes a command has one more
pub own_done : (done : List (ℕ × ℕ)) (lane : ℕ) → done_of (with_done done lane) lane ≡ done_of done lane + 1
own_done done lane = ap (λ o. unwrap_or o 0) (find_put_same lane (done_of done lane + 1) done)

no_fewer : (done : List (ℕ × ℕ)) (other lane : ℕ) → done_of done lane ≤ done_of (with_done done other) lane
no_fewer done other lane = by (lane == other) refl
  where
    by : (t : Bool) → (lane == other) ≡ t → done_of done lane ≤ done_of (with_done done other) lane
    by false e = let same = other_done done lane other e in omega arith
    by true e =
        let number : lane ≡ other = same_number lane other e in
        subst (λ n. done_of done n ≤ done_of (with_done done other) n) (sym number) (let more = own_done done other in
        omega arith)

-- no lane has finished fewer commands
committed_no_fewer : (done : List (ℕ × ℕ)) (other : ℕ) (deed : Deed) (lane : ℕ)
    → done_of done lane ≤ done_of (done_after done other deed) lane
committed_no_fewer done other (deeds.Publish view targets script entries outputs) lane = omega arith
committed_no_fewer done other (deeds.Wink view id) lane = omega arith
committed_no_fewer done other deed lane = no_fewer done other lane

faulted_no_fewer : (done : List (ℕ × ℕ)) (other : ℕ) (o : Option Build) (lane : ℕ)
    → done_of done lane ≤ done_of (done_by_fault done other o) lane
faulted_no_fewer done other None lane = no_fewer done other lane
faulted_no_fewer done other (Some build) lane = omega arith

-- an active build that is over after a step has raised its lane's count
left_more : (s : State) (x : StoryStep) (lane : ℕ) (build : Build) → IsLeft s x lane build
    → done_of (after s x).done lane ≡ done_of s.done lane + 1
left_more s x lane build h =
    subst (λ y. done_of (after s y).done lane ≡ done_of s.done lane + 1) (sym h.is)
    (subst (λ n. done_of (with_done s.done n) lane ≡ done_of s.done lane + 1) (sym h.of_lane) (own_done s.done lane))

not_more : (n m : ℕ) → m ≡ n → m ≡ n + 1 → ⊥
not_more n m same more = omega (arith, same, more)

-- so a build goes on where it has not
pub step_builds : (s : State) (x : StoryStep) → Lawful s x → (lane : ℕ) (build : Build) → build_of s.active lane ≡ Some build
    → done_of (after s x).done lane ≡ done_of s.done lane →
    StillBuilds build (build_of (after s x).active lane)
step_builds s x e lane build is same = by (step_goes s x lane build is e)
  where
    by : StaysTheBuild build (build_of (after s x).active lane) → StillBuilds build (build_of (after s x).active lane)
    by (On new is_on on) = record { build = new; is = is_on; on = on }
    by (Over none) = absurd (not_more (done_of s.done lane) (done_of (after s x).done lane) same
        (left_more s x lane build (is_left s x lane build is e none)))

-- what a step leaves of the phase, and of the commands finished
record StaysInPhase (s t : State) : Type 0 where
  number : t.number ≡ s.number
  phase : t.phase ≡ s.phase
  moment : t.moment ≡ s.moment
  done : (lane : ℕ) → done_of s.done lane ≤ done_of t.done lane

within_phase : (s : State) (x : StoryStep) → Lawful s x → StaysInPhase s (after s x) → GoesLater s (after s x)
within_phase s x e h = record {
  number = let same = h.number in omega arith;
  phase = λ same. h.phase;
  moment = λ same. h.moment;
  done = λ same. h.done;
  builds = λ same. step_builds s x e;
}

next_phase : (s t : State) → t.number ≡ s.number + 1 → GoesLater s t
next_phase s t more = record {
  number = omega arith;
  phase = λ same. absurd (not_more s.number t.number same more);
  moment = λ same. absurd (not_more s.number t.number same more);
  done = λ same. absurd (not_more s.number t.number same more);
  builds = λ same. absurd (not_more s.number t.number same more);
}

-- each lawful step leads to a later state
pub step_later : (s : State) (x : StoryStep) → Lawful s x → GoesLater s (after s x)
step_later s (story_steps.PhaseBegun phase moment) e = next_phase s (after s (story_steps.PhaseBegun phase moment)) refl
step_later s (story_steps.Commit row tick) e =
    within_phase s (story_steps.Commit row tick) e (record {
      number = refl;
      phase = refl;
      moment = refl;
      done = committed_no_fewer s.done row.tag.lane row.deed;
    })
step_later s (story_steps.Refused tag refusal) e =
    within_phase s (story_steps.Refused tag refusal) e
    (record { number = refl; phase = refl; moment = refl; done = no_fewer s.done tag.lane })
step_later s (story_steps.Answer tag text) e =
    within_phase s (story_steps.Answer tag text) e
    (record { number = refl; phase = refl; moment = refl; done = no_fewer s.done tag.lane })
step_later s (story_steps.End tag) e =
    within_phase s (story_steps.End tag) e
    (record { number = refl; phase = refl; moment = refl; done = no_fewer s.done tag.lane })
step_later s (story_steps.Fault tag left before faults tick) e =
    within_phase s (story_steps.Fault tag left before faults tick) e
    (record { number = refl; phase = refl; moment = refl; done = faulted_no_fewer s.done tag.lane (build_by s tag) })
step_later s x e = within_phase s x e (record { number = refl; phase = refl; moment = refl; done = λ lane. omega arith })

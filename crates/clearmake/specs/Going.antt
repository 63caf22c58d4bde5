-- How a story goes on while a lane builds.
use Rattle.std.specs.Prelude.{◌≡◌, ℕ, ◌+◌, true, Option, Some, None, List, [], ◌∷◌, ◌++◌, ◌≢◌}
use Rattle.cc_names.specs.declared.steps.StoryStep.{StoryStep}
use Rattle.cc_names.specs.declared.steps.StoryStep.TheVariants as story_steps
use Rattle.legal_history.specs.Builds.Active.{Build, build_of, came_to, is_outcome}
use Rattle.legal_history.specs.Stories.States.{State, done_of}
use Rattle.legal_history.specs.Stories.Steps.{state_of}

-- the last phase is as it was
pub record SamePhase (old new : State) : Type 0 where
  pub phase : new.phase ≡ old.phase
  pub number : new.number ≡ old.number
  pub moment : new.moment ≡ old.moment

-- the lane still builds these units, and each unit that had its outcome has one
pub record BuildsOn (new : State) (lane : ℕ) (before : Build) : Type 0 where
  pub build : Build
  pub active : build_of new.active lane ≡ Some build
  pub units : build.units ≡ before.units
  pub outcomes : (n : ℕ) → is_outcome (came_to before n) ≡ true → is_outcome (came_to build n) ≡ true

-- the lane of a step of a story, where it is of a command
abbrev pub lane_of : StoryStep → Option ℕ
lane_of (story_steps.Opened rows counts tells) = None
lane_of (story_steps.PhaseBegun phase moment) = None
lane_of (story_steps.Commit row tick) = Some row.tag.lane
lane_of (story_steps.Refused tag refusal) = Some tag.lane
lane_of (story_steps.Answer tag text) = Some tag.lane
lane_of (story_steps.Begin tag rows units) = Some tag.lane
lane_of (story_steps.Start tag n) = Some tag.lane
lane_of (story_steps.Concluded tag n outcome) = Some tag.lane
lane_of (story_steps.End tag) = Some tag.lane
lane_of (story_steps.Fault tag left before faults tick) = Some tag.lane

-- What one call adds to a story for a lane: nothing, or one step of a command of the lane, or a fault of the disk and the end of
-- the build that it ends.
abbrev pub IsOneCall : ℕ → List StoryStep → Type 0
IsOneCall lane [] = Unit {0}
IsOneCall lane (step ∷ []) = lane_of step ≡ Some lane
IsOneCall lane (story_steps.Fault tag left before faults tick ∷ story_steps.End ended ∷ []) =
    (tag.lane ≡ lane) × (ended ≡ tag)
IsOneCall lane steps = ⊥

-- A story goes on by a step of a lane's build at most, which is not over: no lane has finished a command.
pub record GoesOn (old new : List StoryStep) (lane : ℕ) : Type 0 where
  pub steps : List StoryStep
  pub grows : new ≡ old ++ steps
  pub one : IsOneCall lane steps
  pub phase : SamePhase (state_of old) (state_of new)
  pub done : (state_of new).done ≡ (state_of old).done
  pub still : (build : Build) → build_of (state_of old).active lane ≡ Some build → BuildsOn (state_of new) lane build

-- a unit of a lane's build has its outcome
pub record HasOutcome (s : State) (lane n : ℕ) : Type 0 where
  pub build : Build
  pub active : build_of s.active lane ≡ Some build
  pub outcome : is_outcome (came_to build n) ≡ true

-- A lane's next command is finished, by a step of its own, or by a fault and the end that it brings; the other lanes are where
-- they were.
pub record Finishes (old new : List StoryStep) (lane : ℕ) : Type 0 where
  pub steps : List StoryStep
  pub grows : new ≡ old ++ steps
  pub one : IsOneCall lane steps
  pub phase : SamePhase (state_of old) (state_of new)
  pub done : done_of (state_of new).done lane ≡ done_of (state_of old).done lane + 1
  pub others : (other : ℕ) → other ≢ lane → done_of (state_of new).done other ≡ done_of (state_of old).done other

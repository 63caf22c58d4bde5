-- What holds between a legal story and a longer one, however many steps later. Each is promised by a function of
-- `laws::later`.
use Rattle.std.specs.Prelude.{◌≡◌, ℕ, List, ◌++◌, Some, is_some, true}
use Rattle.cc_names.specs.declared.steps.StoryStep.{StoryStep}
use Rattle.cc_names.specs.declared.units.Unit.{Unit}
use Rattle.legal_history.specs.Builds.Active.{Build, build_of, came_to, unit_at, is_outcome}
use Rattle.legal_history.specs.Builds.Choices.{here, visible}
use Rattle.legal_history.specs.Stories.Growth.{Continues, GoesLater}
use Rattle.legal_history.specs.Stories.Lanes.{IsFinished, IsWithin}
use Rattle.legal_history.specs.Stories.Steps.{state_of}
use Rattle.legal_history.specs.Stories.Lawful.{Legal}

-- A lane's build in a prefix of a legal story is active still in the whole story: a build of the same command is.
pub record IsStillActive (prefix rest : List StoryStep) (lane : ℕ) (old new : Build) : Type 0 where
  pub legal : Legal (prefix ++ rest)
  pub before : build_of (state_of prefix).active lane ≡ Some old
  pub now : build_of (state_of (prefix ++ rest)).active lane ≡ Some new
  pub same : new.tag ≡ old.tag

-- A legal story comes back to no earlier phase. While its phase is the same, so are the phase's commands and its moment, no
-- lane has finished fewer commands, and an active build goes on until its lane finishes a command.
abbrev pub StoryGoesLater : Type 0
StoryGoesLater = (prefix rest : List StoryStep) → Legal (prefix ++ rest)
    → GoesLater (state_of prefix) (state_of (prefix ++ rest))

-- Along a legal story no lane finishes more commands than it has.
abbrev pub LaneIsWithinItsCommands : Type 0
LaneIsWithinItsCommands = (story : List StoryStep) (lane : ℕ) → Legal story
    → IsWithin (state_of story) lane

-- A lane that has finished all of its commands stays so while the phase is the same.
abbrev pub FinishedLaneStaysFinished : Type 0
FinishedLaneStaysFinished = (prefix rest : List StoryStep) (lane : ℕ) → Legal (prefix ++ rest)
    → (state_of (prefix ++ rest)).number ≡ (state_of prefix).number
    → IsFinished (state_of prefix) lane → IsFinished (state_of (prefix ++ rest)) lane

-- A build that is active still is the same build, gone on.
abbrev pub ActiveBuildIsTheSame : Type 0
ActiveBuildIsTheSame = (prefix rest : List StoryStep) (lane : ℕ) (old new : Build)
    → IsStillActive prefix rest lane old new → Continues old new

-- While a build is active, what a unit has come to in the end never changes.
abbrev pub WhatAUnitCameToStaysOutcome : Type 0
WhatAUnitCameToStaysOutcome = (prefix rest : List StoryStep) (lane : ℕ) (old new : Build) (n : ℕ)
    → IsStillActive prefix rest lane old new
    → is_outcome (came_to old n) ≡ true → came_to new n ≡ came_to old n

-- The same law, its part *start*: a unit that was started is started still, or has its outcome.
abbrev pub WhatAUnitCameToStaysStart : Type 0
WhatAUnitCameToStaysStart = (prefix rest : List StoryStep) (lane : ℕ) (old new : Build) (n : ℕ)
    → IsStillActive prefix rest lane old new
    → is_some (came_to old n) ≡ true → is_some (came_to new n) ≡ true

-- While a build is active, a unit of it that was started sees the same row at each path.
abbrev pub StartedUnitSeesTheSameLaterSeen : Type 0
StartedUnitSeesTheSameLaterSeen = (prefix rest : List StoryStep) (lane : ℕ) (old new : Build) (n : ℕ) (unit : Unit)
    (path : List ℕ)
    → IsStillActive prefix rest lane old new
    → unit_at old n ≡ Some unit → is_some (came_to old n) ≡ true
    → visible (state_of (prefix ++ rest)).base new n unit path ≡ visible (state_of prefix).base old n unit path

-- The same law, its part *run*: the run of its script on the texts there gives the same.
abbrev pub StartedUnitSeesTheSameLaterRun : Type 0
StartedUnitSeesTheSameLaterRun = (prefix rest : List StoryStep) (lane : ℕ) (old new : Build) (n : ℕ) (unit : Unit)
    → IsStillActive prefix rest lane old new
    → unit_at old n ≡ Some unit → is_some (came_to old n) ≡ true
    → here (state_of (prefix ++ rest)).base new n unit ≡ here (state_of prefix).base old n unit

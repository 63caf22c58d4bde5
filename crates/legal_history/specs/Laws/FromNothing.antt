-- That a unit, or an object, is as the build from nothing makes it, and when a unit may take an object.
use Rattle.std.specs.Prelude.{◌≡◌, ℕ, true, false, ◌⊎◌, Some, None, List}
use Rattle.cc_names.specs.declared.rows.Tag.{Tag}
use Rattle.cc_names.specs.declared.units.Unit.{Unit}
use Rattle.base_model.specs.Rows.{Base, first_rows}
use Rattle.legal_history.specs.Builds.Active.{Build, Came, Started, came_to, is_outcome}
use Rattle.legal_history.specs.Builds.Freshness.{Agrees, HasOutputs, outcome_in}
use Rattle.legal_history.specs.Builds.Serials.{Made}
use Rattle.legal_history.specs.Stories.States.{State}
use Rattle.legal_history.specs.Builds.Turns.{early, is_unit_ready}
use Rattle.legal_history.specs.Builds.UnitTurns.{IsOpen, IsRunning}

-- From nothing, at the build's reference rows, unit n is made, and the object has exactly its targets and outputs.
pub record IsAsFromNothing (b : Base) (build : Build) (n : ℕ) (unit : Unit) (id : ℕ) : Type 0 where
  pub outputs : List (List ℕ)
  pub made : outcome_in (first_rows build.rows b) build n unit ≡ Made outputs
  pub has : HasOutputs b unit id outputs

-- Unit n of a build has its outcome, and it is that of the build from nothing at the build's reference rows.
pub record EndsAsFromNothing (b : Base) (build : Build) (n : ℕ) (unit : Unit) : Type 0 where
  pub came : Came
  pub is : came_to build n ≡ Some came
  pub agrees : Agrees b unit came (outcome_in (first_rows build.rows b) build n unit)

-- a unit may take an object in place of a run: it is open, or it was started and has no outcome
abbrev pub MayTake : State → Tag → ℕ → Build → Unit → Type 0
MayTake s tag n build unit = IsOpen s tag n build unit ⊎ IsRunning s tag n build unit

-- Unit n of a build may run: it was started and has no outcome; or it has none, each unit that it has as a prerequisite has
-- its outcome, and nothing ends it without a run.
pub data MayRun (b : Base) (build : Build) (n : ℕ) (unit : Unit) : Type 0 where
  IsStarted : came_to build n ≡ Some Started → MayRun b build n unit
  IsReadyToStart : is_outcome (came_to build n) ≡ false → is_unit_ready build unit ≡ true → early b build unit ≡ None
      → MayRun b build n unit

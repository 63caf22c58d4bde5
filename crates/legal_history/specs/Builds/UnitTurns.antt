-- The turns of the units of a build: when one is open, runs, is concluded, winks an object in or publishes one.
use Rattle.std.specs.Prelude.{◌≡◌, ℕ, true, false, ◌⊎◌, Some, None, Err, List}
use Rattle.cc_names.specs.Formed.{Plain}
use Rattle.cc_names.specs.Versions.{is_number}
use Rattle.cc_names.specs.declared.rows.Tag.{Tag}
use Rattle.cc_names.specs.declared.refusals.ScriptFault.{ScriptFault}
use Rattle.cc_names.specs.declared.refusals.UnitFault.TheVariants.{Script}
use Rattle.cc_names.specs.declared.steps.UnitEnd.{UnitEnd}
use Rattle.cc_names.specs.declared.steps.UnitEnd.TheVariants.{Kept, Failed}
use Rattle.cc_names.specs.declared.units.Unit.{Unit}
use Rattle.legal_history.specs.Builds.Active.{Build, Started, came_to, is_outcome, unit_at, unit_with_first}
use Rattle.base_model.specs.Changes.{targets_of}
use Rattle.legal_history.specs.Builds.Choices.{here, publish_of}
use Rattle.base_model.specs.Objects.{held_at_all}
use Rattle.legal_history.specs.Builds.Reuse.{reusable}
use Rattle.legal_history.specs.Stories.States.{State, build_by}
use Rattle.legal_history.specs.Builds.Turns.{early, is_unit_ready}

-- the unit of this number of the command's active build has no outcome
pub record Waits (s : State) (tag : Tag) (n : ℕ) (build : Build) (unit : Unit) : Type 0 where
  pub active : build_by s tag ≡ Some build
  pub is_unit : unit_at build n ≡ Some unit
  pub waits : is_outcome (came_to build n) ≡ false

-- A unit is open where it waits, its build has met no fault, each unit that it has as a prerequisite has an outcome, and
-- nothing ends it without a run.
pub record IsOpen (s : State) (tag : Tag) (n : ℕ) (build : Build) (unit : Unit) : Type 0 where
  pub waits : Waits s tag n build unit
  pub faultless : build.faulted ≡ false
  pub ready : is_unit_ready build unit ≡ true
  pub runs : early s.base build unit ≡ None

-- a unit runs where it was started and has no outcome, and its build has met no fault
pub record IsRunning (s : State) (tag : Tag) (n : ℕ) (build : Build) (unit : Unit) : Type 0 where
  pub waits : Waits s tag n build unit
  pub faultless : build.faulted ≡ false
  pub started : came_to build n ≡ Some Started

-- a unit's script is started, once, where the unit is open and may reuse no object
pub record Starts (s : State) (tag : Tag) (n : ℕ) : Type 0 where
  pub build : Build
  pub unit : Unit
  pub open_unit : IsOpen s tag n build unit
  pub fresh : came_to build n ≡ None
  pub nothing : reusable s.base build n unit ≡ None

-- a unit keeps the object that the view holds at every target, where that is the one that it may reuse
pub record Keeps (s : State) (tag : Tag) (n id : ℕ) : Type 0 where
  pub build : Build
  pub unit : Unit
  pub open_unit : IsOpen s tag n build unit
  pub chosen : reusable s.base build n unit ≡ Some id
  pub holds : held_at_all s.base build.view unit.targets ≡ Some id

-- a unit fails with the fault of its script's run
pub record Fails (s : State) (tag : Tag) (n : ℕ) (fault : ScriptFault) : Type 0 where
  pub build : Build
  pub unit : Unit
  pub running : IsRunning s tag n build unit
  pub fails : (here s.base build n unit).result ≡ Err fault

-- a unit ends without a run, as the first rule that applies says
pub record EndsEarly (s : State) (tag : Tag) (n : ℕ) (outcome : UnitEnd) : Type 0 where
  pub build : Build
  pub unit : Unit
  pub waits : Waits s tag n build unit
  pub faultless : build.faulted ≡ false
  pub ready : is_unit_ready build unit ≡ true
  pub ends : early s.base build unit ≡ Some outcome

-- when a unit may be concluded so, without a row
abbrev pub ComesTo : State → Tag → ℕ → UnitEnd → Type 0
ComesTo s tag n (Kept id) = Keeps s tag n id
ComesTo s tag n (Failed (Script fault)) = Fails s tag n fault
ComesTo s tag n outcome = EndsEarly s tag n outcome

-- a view takes an object that a unit may reuse and that it does not hold at every target
pub record Winks (s : State) (row : Plain) (view : List ℕ) (id : ℕ) : Type 0 where
  pub n : ℕ
  pub build : Build
  pub unit : Unit
  pub place : unit_with_first build (targets_of s.base id) ≡ Some n
  pub may : IsOpen s row.tag n build unit ⊎ IsRunning s row.tag n build unit
  pub of_view : build.view ≡ view
  pub chosen : reusable s.base build n unit ≡ Some id
  pub lacks : is_number id (held_at_all s.base build.view unit.targets) ≡ false

-- a unit that runs, and may reuse no object, publishes what its run gives
pub record Publishes (s : State) (row : Plain) (targets : List (List ℕ)) : Type 0 where
  pub n : ℕ
  pub build : Build
  pub unit : Unit
  pub place : unit_with_first build targets ≡ Some n
  pub running : IsRunning s row.tag n build unit
  pub nothing : reusable s.base build n unit ≡ None
  pub made : publish_of s.base build n unit ≡ Some row.deed

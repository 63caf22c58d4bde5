-- What comes next for a unit of an active build.
use Rattle.std.specs.Prelude.{◌≡◌, ⊤, ℕ, ◌<◌, Bool, true, false, Option, Some, None, Ok, Err, List, [], ◌∷◌, length}
use Rattle.std.specs.Option.{option_or}
use Rattle.cc_names.specs.Versions.{is_number}
use Rattle.cc_names.specs.declared.refusals.ScriptFault.{ScriptFault}
use Rattle.cc_names.specs.declared.steps.UnitEnd.{UnitEnd}
use Rattle.cc_names.specs.declared.units.Unit.{Unit}
use Rattle.script_grammar.specs.Lines.{script_of}
use Rattle.script_grammar.specs.declared.lines.Line.{Line}
use Rattle.base_model.specs.Rows.{Base, first_rows}
use Rattle.legal_history.specs.Builds.Active.{Build, Came, Started, came_to, is_outcome, unit_at, unit_with}
use Rattle.legal_history.specs.Builds.Fresh.{script_text}
use Rattle.base_model.specs.Objects.{held_at_all}
use Rattle.legal_history.specs.Builds.Reuse.{reusable}
use Rattle.legal_history.specs.Builds.Turns.{early_in, is_unit_ready}
use Rattle.build_core.specs.declared.steps.UnitStep.{UnitStep}
use Rattle.build_core.specs.declared.steps.UnitStep.TheVariants as next

-- a number, unless this is an outcome
abbrev pub unless_over : Bool → ℕ → Option ℕ
unless_over true n = None
unless_over false n = Some n

-- the unit of this number, where there is one and it has no outcome
abbrev pub awaited_unit : Build → Option ℕ → Option ℕ
awaited_unit build None = None
awaited_unit build (Some n) = unless_over (is_outcome (came_to build n)) n

-- the first of the units with these targets that has no outcome
abbrev pub first_awaited : Build → List (List ℕ) → Option ℕ
first_awaited build [] = None
first_awaited build (path ∷ paths) = option_or (awaited_unit build (unit_with build path)) (first_awaited build paths)

-- unit m is the first that the unit waits for
pub record Awaits (build : Build) (unit : Unit) (m : ℕ) : Type 0 where
  pub first : first_awaited build unit.prerequisites ≡ Some m
  pub within : m < length build.units
  pub waits : is_outcome (came_to build m) ≡ false

-- the unit ends without a run, where its build's reference rows are these
pub record UnitEndsEarly (rows : Base) (build : Build) (unit : Unit) (end : UnitEnd) : Type 0 where
  pub ready : is_unit_ready build unit ≡ true
  pub ends : early_in rows build unit ≡ Some end

-- nothing ends the unit without a run
pub record IsUnitOpen (rows : Base) (build : Build) (unit : Unit) : Type 0 where
  pub ready : is_unit_ready build unit ≡ true
  pub runs : early_in rows build unit ≡ None

-- unit n is open, and the object that it may reuse is the one that its build's view holds at every target
pub record UnitKeeps (b : Base) (build : Build) (n : ℕ) (unit : Unit) (id : ℕ) : Type 0 where
  pub open_unit : IsUnitOpen (first_rows build.rows b) build unit
  pub chosen : reusable b build n unit ≡ Some id
  pub holds : held_at_all b build.view unit.targets ≡ Some id

-- unit n is open, and its build's view does not hold the object that it may reuse at every target
pub record UnitWinks (b : Base) (build : Build) (n : ℕ) (unit : Unit) (id : ℕ) : Type 0 where
  pub open_unit : IsUnitOpen (first_rows build.rows b) build unit
  pub chosen : reusable b build n unit ≡ Some id
  pub lacks : is_number id (held_at_all b build.view unit.targets) ≡ false

-- unit n is open and has come to nothing yet, and may reuse no object
pub record IsToRun (b : Base) (build : Build) (n : ℕ) (unit : Unit) : Type 0 where
  pub open_unit : IsUnitOpen (first_rows build.rows b) build unit
  pub fresh : came_to build n ≡ None
  pub nothing : reusable b build n unit ≡ None

-- unit n is to run, and its script was read
pub record UnitStarts (b : Base) (build : Build) (n : ℕ) (unit : Unit) (script : List Line) (targets : List (List ℕ)) : Type 0
  where
    pub to_run : IsToRun b build n unit
    pub script_is : script_of (script_text unit.script) ≡ Ok script
    pub targets_are : targets ≡ unit.targets

-- unit n is to run, and its script cannot be read
pub record IsUnreadable (b : Base) (build : Build) (n : ℕ) (unit : Unit) (fault : ScriptFault) : Type 0 where
  pub to_run : IsToRun b build n unit
  pub fault_is : script_of (script_text unit.script) ≡ Err fault

-- unit n was started and has no outcome, and its script was read
pub record RunsAgain (build : Build) (n : ℕ) (unit : Unit) (script : List Line) (targets : List (List ℕ)) : Type 0 where
  pub started : came_to build n ≡ Some Started
  pub script_is : script_of (script_text unit.script) ≡ Ok script
  pub targets_are : targets ≡ unit.targets

-- unit n was started and has no outcome, and its script cannot be read
pub record FailsToRun (build : Build) (n : ℕ) (unit : Unit) (fault : ScriptFault) : Type 0 where
  pub started : came_to build n ≡ Some Started
  pub fault_is : script_of (script_text unit.script) ≡ Err fault

-- what comes next for unit n, which has no outcome
abbrev pub IsNextOfUnit : Base → Build → ℕ → Unit → UnitStep → Type 0
IsNextOfUnit b build n unit next.Concluded = ⊥
IsNextOfUnit b build n unit (next.NotReady m) = Awaits build unit m
IsNextOfUnit b build n unit (next.EndEarly end) = UnitEndsEarly (first_rows build.rows b) build unit end
IsNextOfUnit b build n unit (next.Keep id) = UnitKeeps b build n unit id
IsNextOfUnit b build n unit (next.Wink id) = UnitWinks b build n unit id
IsNextOfUnit b build n unit (next.Start script targets) = UnitStarts b build n unit script targets
IsNextOfUnit b build n unit (next.Unreadable fault) = IsUnreadable b build n unit fault
IsNextOfUnit b build n unit (next.Run script targets) = RunsAgain build n unit script targets
IsNextOfUnit b build n unit (next.Fail fault) = FailsToRun build n unit fault

-- what comes next for unit n, which was started and has no outcome: its run
abbrev pub IsNextOfStarted : Build → ℕ → Unit → UnitStep → Type 0
IsNextOfStarted build n unit (next.Run script targets) = RunsAgain build n unit script targets
IsNextOfStarted build n unit (next.Fail fault) = FailsToRun build n unit fault
IsNextOfStarted build n unit step = ⊥

-- a step that is no run is of a unit that was not started
abbrev pub IsFreshFor : UnitStep → Option Came → Type 0
IsFreshFor (next.Run script targets) came = ⊤
IsFreshFor (next.Fail fault) came = ⊤
IsFreshFor step came = came ≡ None

-- unit n has no outcome, and this comes next for it
pub record UnitWaits (b : Base) (build : Build) (n : ℕ) (step : UnitStep) : Type 0 where
  pub unit : Unit
  pub is_unit : unit_at build n ≡ Some unit
  pub waits : is_outcome (came_to build n) ≡ false
  pub fresh : IsFreshFor step (came_to build n)
  pub next : IsNextOfUnit b build n unit step

-- What comes next for unit n of a build: nothing where it has its outcome.
abbrev pub IsUnitStep : Base → Build → ℕ → UnitStep → Type 0
IsUnitStep b build n next.Concluded = is_outcome (came_to build n) ≡ true
IsUnitStep b build n step = UnitWaits b build n step

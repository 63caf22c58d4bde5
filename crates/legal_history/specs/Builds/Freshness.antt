-- The outcomes of an active build's units in a build from nothing, and that those of the active build agree with them.
use Rattle.std.specs.Prelude.{◌≡◌, ℕ, true, Option, Some, None, is_some, List, take, reverse}
use Rattle.cc_names.specs.declared.steps.UnitEnd.{UnitEnd}
use Rattle.cc_names.specs.declared.steps.UnitEnd.TheVariants.{Kept}
use Rattle.cc_names.specs.declared.units.Unit.{Unit}
use Rattle.base_model.specs.Rows.{Base, first_rows}
use Rattle.legal_history.specs.Builds.Active.{Build, Came, Started, Concluded, Given, came_to, is_outcome, object_of, unit_at}
use Rattle.legal_history.specs.Builds.Fresh.{serial, serial_of, sees_file, sees_directory}
use Rattle.base_model.specs.Texts.{texts, text, output_at}
use Rattle.legal_history.specs.Builds.Serials.{Outcome, Made, Without, Finished, makes, early_end, standing_in}
use Rattle.legal_history.specs.Builds.Consistency.{IsObjectOf, IsConsistent}

-- the first n units of a build, finished from nothing at its reference rows, the last first
abbrev pub done_in : Base → Build → ℕ → List Finished
done_in rows build n = serial (texts rows build.view) (sees_file rows build.view) (sees_directory rows build.view)
    (reverse (take n build.units))

-- what unit n comes to from nothing
abbrev pub outcome_in : Base → Build → ℕ → Unit → Outcome
outcome_in rows build n unit =
    serial_of (texts rows build.view) (sees_file rows build.view) (sees_directory rows build.view) (done_in rows build n) unit

-- what unit n comes to from nothing without a run, if to anything
abbrev pub early_from_nothing : Base → Build → ℕ → Unit → Option UnitEnd
early_from_nothing rows build n unit = early_end (sees_directory rows build.view)
    (standing_in (sees_file rows build.view) (done_in rows build n)) unit

-- an object of the base has exactly these outputs for a unit's targets
pub record HasOutputs (b : Base) (unit : Unit) (id : ℕ) (outputs : List (List ℕ)) : Type 0 where
  pub is_object : IsObjectOf b unit id
  pub texts : (path : List ℕ) → text b id path ≡ output_at path unit.targets outputs
  pub whole : (path : List ℕ) → makes path unit ≡ true → is_some (output_at path unit.targets outputs) ≡ true

-- what a unit has come to is an outcome: an object with these outputs, which it was given or which its view held and it
-- kept, or the same end without an object
abbrev pub Agrees : Base → Unit → Came → Outcome → Type 0
Agrees b unit (Given id) (Made outputs) = HasOutputs b unit id outputs
Agrees b unit (Concluded end) (Without other) = (end ≡ other) × (object_of (Some (Concluded end)) ≡ None)
Agrees b unit (Concluded (Kept id)) (Made outputs) = HasOutputs b unit id outputs
Agrees b unit came outcome = ⊥

-- What each unit of a consistent build has come to so far agrees with the build from nothing at its reference rows.
pub record AgreesSoFar (b : Base) (build : Build) : Type 0 where
  pub consistent : IsConsistent b build
  pub runs : (n : ℕ) (unit : Unit) → unit_at build n ≡ Some unit → came_to build n ≡ Some Started
      → early_from_nothing (first_rows build.rows b) build n unit ≡ None
  pub agrees : (n : ℕ) (unit : Unit) (came : Came) → unit_at build n ≡ Some unit → came_to build n ≡ Some came
      → is_outcome (Some came) ≡ true →
      Agrees b unit came (outcome_in (first_rows build.rows b) build n unit)

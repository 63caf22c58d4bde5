-- What a unit of an active build may do next, by the outcomes of the build's other units.
use Rattle.std.specs.Prelude.{ℕ, ◌+◌, Bool, true, ◌&&◌, Option, Some, None, Result, Ok, Err, List, [], ◌∷◌, option_map}
use Rattle.std.specs.List.{list_all}
use Rattle.cc_names.specs.declared.refusals.ScriptFault.{ScriptFault}
use Rattle.cc_names.specs.declared.steps.UnitEnd.{UnitEnd}
use Rattle.cc_names.specs.declared.steps.UnitEnd.TheVariants.{Failed}
use Rattle.cc_names.specs.declared.refusals.UnitFault.TheVariants.{Script}
use Rattle.cc_names.specs.declared.units.Unit.{Unit}
use Rattle.script_grammar.specs.Lines.{script_of}
use Rattle.base_model.specs.Rows.{Base, first_rows}
use Rattle.legal_history.specs.Builds.Active.{Build, Came, Started, Concluded, came_to, is_outcome, unit_with}
use Rattle.legal_history.specs.Builds.Fresh.{script_text, sees_file, sees_directory}
use Rattle.legal_history.specs.Builds.Serials.{Standing, Good, standing_of_end, standing_or_file, early_end}

-- how a unit stands; one without an outcome is not asked
abbrev pub standing_of_came : Option Came → Standing
standing_of_came (Some (Concluded end)) = standing_of_end end
standing_of_came came = Good

-- how the unit with this target stands
abbrev pub standing_of_unit : Build → List ℕ → Option Standing
standing_of_unit build path = option_map (λ n. standing_of_came (came_to build n)) (unit_with build path)

-- what a unit comes to without a run, where its build's reference rows are these
abbrev pub early_in : Base → Build → Unit → Option UnitEnd
early_in rows build unit =
    early_end (sees_directory rows build.view) (λ path. standing_or_file (sees_file rows build.view path)
    (standing_of_unit build path)) unit

-- what a unit of a build comes to without a run, where each unit that it has as a prerequisite has its outcome
abbrev pub early : Base → Build → Unit → Option UnitEnd
early b build unit = early_in (first_rows build.rows b) build unit

-- whether a number's unit has its outcome; a path that is no unit's keeps nobody waiting
abbrev pub is_over : Build → Option ℕ → Bool
is_over build None = true
is_over build (Some n) = is_outcome (came_to build n)

-- whether each unit that this one has as a prerequisite has its outcome
abbrev pub is_unit_ready : Build → Unit → Bool
is_unit_ready build unit = list_all (λ path. is_over build (unit_with build path)) unit.prerequisites

-- whether units that are numbered from n on all have their outcomes
abbrev pub all_over : Build → ℕ → List Unit → Bool
all_over build n [] = true
all_over build n (unit ∷ units) = is_outcome (came_to build n) && all_over build (n + 1) units

-- whether each unit of the build has its outcome
abbrev pub is_complete : Build → Bool
is_complete build = all_over build 0 build.units

-- the fault of a text that cannot be read
abbrev pub script_fault_of : {A : Type 0} → Result A ScriptFault → Option ScriptFault
script_fault_of (Err fault) = Some fault
script_fault_of (Ok script) = None

-- The fault of a unit's script that cannot be read.
abbrev pub unreadable : Unit → Option ScriptFault
unreadable unit = script_fault_of (script_of (script_text unit.script))

-- what a unit that is started comes to: where its script cannot be read, this is its outcome
abbrev pub came_by_start : Option ScriptFault → Came
came_by_start (Some fault) = Concluded (Failed (Script fault))
came_by_start None = Started

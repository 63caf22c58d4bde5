-- The units of a build, in their order, or the refusal in their place.
use Rattle.std.specs.Prelude.{ℕ, Bool, ◌||◌, not, is_some, Option, Some, None, Result, Ok, Err, List, [], ◌∷◌, map, find}
use Rattle.std.specs.Prelude.{flat_map, slice_get}
use Rattle.std.specs.List.{filter_map}
use Rattle.cc_names.specs.Files.{Files}
use Rattle.cc_names.specs.Paths.{root}
use Rattle.cc_names.specs.declared.commands.Macro.{Macro}
use Rattle.cc_names.specs.declared.refusals.MakeError.{MakeError}
use Rattle.cc_names.specs.declared.refusals.GraphFault.{GraphFault}
use Rattle.cc_names.specs.declared.refusals.GraphFault.TheVariants as graphs
use Rattle.cc_names.specs.declared.refusals.Refusal.{Refusal}
use Rattle.cc_names.specs.declared.refusals.Refusal.TheVariants as refusals
use Rattle.cc_names.specs.declared.units.Unit.{Unit}
use Rattle.cc_names.specs.declared.units.UnitScript.{UnitScript}
use Rattle.cc_names.specs.declared.units.UnitScript.TheVariants.{Bare}
use Rattle.make_grammar.specs.Contents.{Contents, expansion}
use Rattle.make_grammar.specs.Grammar.{makefile_of}
use Rattle.make_grammar.specs.Serving.{servings}
use Rattle.make_grammar.specs.Units.{script_of_unit, goals_of, made_by, unless_source, units_unless_refused, main_file}
use Rattle.make_grammar.specs.Rules.{Serving}
use Rattle.make_grammar.specs.Walks.{Walk, number_of, walk_of}

-- the first of some paths
abbrev pub first_of : List (List ℕ) → Option (List ℕ)
first_of [] = None
first_of (path ∷ paths) = Some path

-- the first of the targets of a unit, which has one
abbrev pub first_target : List (List ℕ) → List ℕ
first_target [] = root
first_target (target ∷ targets) = target

-- the script of a unit: `$@` is its first target, `$<` its first prerequisite, `$*` its stem
abbrev pub script_for : Contents → Serving → Option (List ℕ) → UnitScript
script_for make serving None = Bare
script_for make serving (Some script) =
    script_of_unit (expansion make script (first_target serving.targets) (first_of serving.prerequisites) serving.stem)

-- the unit that a rule makes
abbrev pub unit_of : Contents → Serving → Unit
unit_of make serving =
    record { targets = serving.targets; prerequisites = serving.prerequisites; script = script_for make serving serving.script }

-- the first goal that is neither a unit nor a file; the root where there is no goal at all
abbrev pub missing_goal : List Serving → (List ℕ → Bool) → List (List ℕ) → Option (List ℕ)
missing_goal units is_file [] = Some root
missing_goal units is_file (goal ∷ goals) = find (λ path. not (is_some (number_of units path) || is_file path)) (goal ∷ goals)

-- the units that a walk was through with, in its order
abbrev pub units_walked : Contents → List Serving → List ℕ → List Unit
units_walked make units order = map (unit_of make) (filter_map (slice_get units) order)

-- the units of a walk, unless it met a unit again
abbrev pub unless_cycle : Contents → List Serving → (List ℕ → Bool) → Result Walk (List ℕ) → Result (List Unit) GraphFault
unless_cycle make units is_file (Err path) = Err (graphs.Cycle path)
unless_cycle make units is_file (Ok walk) =
    unless_source (find is_file (flat_map made_by (units_walked make units walk.order))) (units_walked make units walk.order)

-- the units of a walk over goals, unless one of them is missing
abbrev pub unless_missing : Contents → List Serving → (List ℕ → Bool) → List (List ℕ) → Option (List ℕ)
    → Result (List Unit) GraphFault
unless_missing make units is_file goals (Some goal) = Err (graphs.NoGoal goal)
unless_missing make units is_file goals None = unless_cycle make units is_file (walk_of units goals)

-- the units of these goals, by all that may serve them
abbrev pub graph_by : Contents → List Serving → (List ℕ → Bool) → List (List ℕ) → Result (List Unit) GraphFault
graph_by make units is_file goals = unless_missing make units is_file goals (missing_goal units is_file goals)

-- The units of a build of these goals, by the rules of a makefile and the test of what is a file of the view.
abbrev pub graph_of : Contents → List (List ℕ) → (List ℕ → Bool) → Result (List Unit) GraphFault
graph_of make goals is_file = graph_by make (servings make is_file (goals_of make.rules goals)) is_file
    (goals_of make.rules goals)

-- the units of a makefile that was read, or the refusal
abbrev pub units_of : Files → List (List ℕ) → Result Contents MakeError → Result (List Unit) Refusal
units_of files goals (Err fault) = Err (refusals.MakeError fault.file fault.line fault.cause)
units_of files goals (Ok make) = units_unless_refused (graph_of make goals (λ path. is_some (files path)))

-- the units of the makefile at this path, which may be no file
abbrev pub units_at : Files → List Macro → List (List ℕ) → List ℕ → Option (List ℕ) → Result (List Unit) Refusal
units_at files macros goals file None = Err (refusals.NoMakefile file)
units_at files macros goals file (Some text) = units_of files goals (makefile_of files file macros)

-- The units of a build, or its refusal: over the files of the view with their texts, with the file that is named as the
-- makefile, if one is, the macros of the command line, and the goals.
abbrev pub units : Files → Option (List ℕ) → List Macro → List (List ℕ) → Result (List Unit) Refusal
units files file macros goals = units_at files macros goals (main_file files file) (files (main_file files file))

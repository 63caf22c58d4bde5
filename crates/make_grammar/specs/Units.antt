-- What the units of a build are made of: rules, goals, expanded scripts, and the refusals in their place.
use Rattle.std.specs.Prelude.{ℕ, Bool, true, false, not, is_some, Option, Some, None, Result, Ok, Err, List, [], ◌∷◌, find}
use Rattle.std.specs.Prelude.{flat_map, if◌then◌else◌, codes}
use Rattle.std.specs.List.{list_any}
use Rattle.std.specs.Str.{bytes_eq}
use Rattle.cc_names.specs.Files.{Files}
use Rattle.cc_names.specs.declared.refusals.GraphFault.{GraphFault}
use Rattle.cc_names.specs.declared.refusals.GraphFault.TheVariants as graphs
use Rattle.cc_names.specs.declared.refusals.Refusal.{Refusal}
use Rattle.cc_names.specs.declared.refusals.Refusal.TheVariants as refusals
use Rattle.cc_names.specs.declared.units.Unit.{Unit}
use Rattle.cc_names.specs.declared.units.UnitScript.{UnitScript}
use Rattle.cc_names.specs.declared.units.UnitScript.TheVariants.{Bare, TooLong, Lines}
use Rattle.make_grammar.specs.WordPaths.{begins_with_period}
use Rattle.make_grammar.specs.declared.contents.Expanded.{Expanded}
use Rattle.make_grammar.specs.declared.contents.Expanded.TheVariants as expansions
use Rattle.make_grammar.specs.Rules.{MakeRule}

-- an expanded script as that of a unit
abbrev pub script_of_unit : Expanded → UnitScript
script_of_unit expansions.TooLong = TooLong
script_of_unit (expansions.Lines script) = Lines script

-- the targets of a rule
abbrev pub targets_of : MakeRule → List (List ℕ)
targets_of rule = rule.targets

-- whether a rule makes the path
abbrev pub is_rule_target : List MakeRule → List ℕ → Bool
is_rule_target rules path = list_any (bytes_eq path) (flat_map targets_of rules)

-- a path where there is one
abbrev pub path_list : Option (List ℕ) → List (List ℕ)
path_list None = []
path_list (Some path) = path ∷ []

-- the goals of a build: those that are given, else the first target of a rule that does not begin with a period
abbrev pub goals_of : List MakeRule → List (List ℕ) → List (List ℕ)
goals_of rules [] = path_list (find (λ target. not (begins_with_period target)) (flat_map targets_of rules))
goals_of rules (goal ∷ goals) = goal ∷ goals

-- whether a unit has a script
abbrev pub has_script : UnitScript → Bool
has_script Bare = false
has_script TooLong = true
has_script (Lines script) = true

-- what a unit with a script makes
abbrev pub made_by : Unit → List (List ℕ)
made_by unit = if has_script unit.script then unit.targets else []

-- units, unless a target of one with a script is a file
abbrev pub unless_source : Option (List ℕ) → List Unit → Result (List Unit) GraphFault
unless_source None units = Ok units
unless_source (Some target) units = Err (graphs.TargetIsSource target)

-- a fault of the graph as the refusal of a command
abbrev pub refusal_of : GraphFault → Refusal
refusal_of (graphs.NoGoal path) = refusals.NoGoal path
refusal_of (graphs.Cycle path) = refusals.Cycle path
refusal_of (graphs.TargetIsSource path) = refusals.TargetIsSource path

-- units, or the refusal
abbrev pub units_unless_refused : Result (List Unit) GraphFault → Result (List Unit) Refusal
units_unless_refused (Ok units) = Ok units
units_unless_refused (Err fault) = Err (refusal_of fault)

-- the makefile of a build: the one that is named, else `makefile` where it is a file of the view, else `Makefile`
abbrev pub main_file : Files → Option (List ℕ) → List ℕ
main_file files (Some file) = file
main_file files None = if is_some (files (codes "makefile")) then codes "makefile" else codes "Makefile"

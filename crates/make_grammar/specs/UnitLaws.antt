-- What holds of every makefile that is read, and of the units of every build.
use Rattle.std.specs.Bool.{⊤}
use Rattle.std.specs.Prelude.{◌≡◌, ℕ, ◌<◌, ◌≤◌, Bool, true, Some, Ok, List, flat_map, length, slice_get}
use Rattle.std.specs.List.{AllByRecursion, IsDistinct}
use Rattle.std.specs.Str.{bytes_eq}
use Rattle.cc_names.specs.Files.{Files}
use Rattle.cc_names.specs.Formed.{AreTargets, IsBelowRoot}
use Rattle.cc_names.specs.declared.commands.Macro.{Macro}
use Rattle.cc_names.specs.declared.units.Unit.{Unit}
use Rattle.cc_names.specs.declared.units.UnitScript.{UnitScript}
use Rattle.cc_names.specs.declared.units.UnitScript.TheVariants as scripts
use Rattle.make_grammar.specs.Contents.{Contents}
use Rattle.make_grammar.specs.Grammar.{makefile_of}
use Rattle.make_grammar.specs.Graphs.{graph_of}
use Rattle.make_grammar.specs.Macros.{is_among, expansion_limit}
use Rattle.make_grammar.specs.Numbers.{number_from}
use Rattle.make_grammar.specs.Units.{targets_of}
use Rattle.make_grammar.specs.Rules.{MakeRule}

-- paths below the root, each once
abbrev pub ArePrerequisites : List (List ℕ) → Type 0
ArePrerequisites paths = AllByRecursion IsBelowRoot paths × IsDistinct bytes_eq paths

-- a rule: one target or more, below the root, each once, and so its prerequisites
abbrev pub IsRule : MakeRule → Type 0
IsRule rule = AreTargets rule.targets × ArePrerequisites rule.prerequisites

-- The form of what a makefile says: of its rules, of which no two have a target.
pub record IsFormedMakefile (make : Contents) : Type 0 where
  pub rules : AllByRecursion IsRule make.rules
  pub apart : IsDistinct bytes_eq (flat_map targets_of make.rules)

-- a script within the limit, or none that is run
abbrev pub IsShort : UnitScript → Type 0
IsShort (scripts.Lines text) = length text ≤ expansion_limit
IsShort script = ⊤

-- The form of a unit: one target or more, below the root, each once; so its prerequisites; and a script within the limit.
pub record IsUnit (unit : Unit) : Type 0 where
  pub targets : AreTargets unit.targets
  pub prerequisites : ArePrerequisites unit.prerequisites
  pub script : IsShort unit.script

-- the targets of a unit
abbrev pub made_by_unit : Unit → List (List ℕ)
made_by_unit unit = unit.targets

-- Units in order: a target is of one unit, and a prerequisite that is a unit's target is one of an earlier unit.
pub record InOrder (units : List Unit) : Type 0 where
  pub one : (n : ℕ) (unit : Unit) (path : List ℕ) → slice_get units n ≡ Some unit → is_among unit.targets path ≡ true →
      number_from made_by_unit 0 path units ≡ Some n
  pub earlier : (n m : ℕ) (unit : Unit) (path : List ℕ) → slice_get units n ≡ Some unit → is_among unit.prerequisites path ≡ true
      →
      number_from made_by_unit 0 path units ≡ Some m → m < n

-- The units of a build are in order.
abbrev pub UnitsInOrder : Type 0
UnitsInOrder = (make : Contents) (goals : List (List ℕ)) (is_file : List ℕ → Bool) (units : List Unit) →
    IsFormedMakefile make → graph_of make goals is_file ≡ Ok units → InOrder units

-- Each of them is formed.
abbrev pub UnitsFormed : Type 0
UnitsFormed = (make : Contents) (goals : List (List ℕ)) (is_file : List ℕ → Bool) (units : List Unit) →
    IsFormedMakefile make → graph_of make goals is_file ≡ Ok units → AllByRecursion IsUnit units

-- Every makefile that is read is formed.
abbrev pub MakefilesAreFormed : Type 0
MakefilesAreFormed = (files : Files) (file : List ℕ) (overrides : List Macro) (make : Contents) →
    makefile_of files file overrides ≡ Ok make → IsFormedMakefile make

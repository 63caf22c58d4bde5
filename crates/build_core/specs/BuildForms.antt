-- The form of a build: its view is a name, and each of its units is one that may be run and published.
use Rattle.std.specs.Prelude.{◌<◌, ◌^◌, length}
use Rattle.std.specs.List.{AllByRecursion}
use Rattle.cc_names.specs.Formed.{AreTargets}
use Rattle.cc_names.specs.Names.{IsName}
use Rattle.cc_names.specs.declared.units.Unit.{Unit}
use Rattle.legal_history.specs.Builds.Active.{Build}
use Rattle.make_grammar.specs.UnitLaws.{IsShort}

-- the form of a unit: its targets are those of a row, and its script is within the limit
abbrev pub IsUnitFormed : Unit → Type 0
IsUnitFormed unit = AreTargets unit.targets × IsShort unit.script

-- the form of a build's view and units, of which there are as many as numbers of four bytes count
pub record IsBuildFormed (build : Build) : Type 0 where
  pub named : IsName build.view
  pub units : AllByRecursion IsUnitFormed build.units
  pub few : length build.units < 2 ^ 32

-- When the run of a unit may be published, and the row that it makes.
use Rattle.std.specs.Prelude.{◌≡◌, ℕ, ◌<◌, ◌≤◌, false, Some, Ok, List, length}
use Rattle.cc_names.specs.Formed.{Plain, AreTargets}
use Rattle.cc_names.specs.Names.{IsName}
use Rattle.cc_names.specs.Paths.{root}
use Rattle.cc_names.specs.declared.units.Unit.{Unit}
use Rattle.make_grammar.specs.Macros.{expansion_limit}
use Rattle.base_model.specs.Rows.{Base, size}
use Rattle.legal_history.specs.Builds.Active.{Build, came_to, object_of, unit_at}
use Rattle.legal_history.specs.Builds.Choices.{here, publish_of}
use Rattle.legal_history.specs.Builds.Fresh.{script_text}
use Rattle.legal_history.specs.Builds.Serials.{makes}

-- A build whose units have no target at the root, and objects of the base alone.
pub record HasObjects (b : Base) (build : Build) : Type 0 where
  pub rootless : (m : ℕ) (unit : Unit) → unit_at build m ≡ Some unit → makes root unit ≡ false
  pub below : (m : ℕ) (unit : Unit) (id : ℕ) → unit_at build m ≡ Some unit → object_of (came_to build m) ≡ Some id → id < size b

-- What a unit's run needs to publish a formed row: a view with a name, formed targets, a script within the limit, and objects of
-- the base alone.
pub record CanPublish (b : Base) (build : Build) (unit : Unit) : Type 0 where
  pub view : IsName build.view
  pub targets : AreTargets unit.targets
  pub script : length (script_text unit.script) ≤ expansion_limit
  pub objects : HasObjects b build

-- The run of unit n on what it sees gave these outputs and asked for these paths.
pub record RunGave (b : Base) (build : Build) (n : ℕ) (unit : Unit) (outputs reads : List (List ℕ)) : Type 0 where
  pub result : (here b build n unit).result ≡ Ok outputs
  pub asked : (here b build n unit).reads ≡ reads

-- The row that unit n publishes at this moment, by its build's command.
pub record IsPublishOf (b : Base) (build : Build) (n : ℕ) (unit : Unit) (moment : ℕ) (row : Plain) : Type 0 where
  pub tag : row.tag ≡ build.tag
  pub made : row.moment ≡ moment
  pub deed : publish_of b build n unit ≡ Some row.deed

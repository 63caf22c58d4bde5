-- When a unit's run may publish: in a consistent build, at a base.
use Rattle.std.proofs.Common.{◌≡◌, ℕ, ◌≤◌, Some, length, arith}
use Rattle.std.specs.List.{AllByRecursion}
use Rattle.cc_names.specs.Names.{IsName}
use Rattle.cc_names.specs.declared.units.Unit.{Unit}
use Rattle.cc_names.specs.declared.units.UnitScript.{UnitScript}
use Rattle.cc_names.specs.declared.units.UnitScript.TheVariants.{Bare, TooLong, Lines}
use Rattle.cc_names.proofs.Common.{all_at}
use Rattle.base_model.specs.Rows.{Base}
use Rattle.legal_history.specs.Builds.Active.{Build, unit_at}
use Rattle.legal_history.specs.Builds.Fresh.{script_text}
use Rattle.legal_history.specs.Builds.Consistency.{IsConsistent}
use Rattle.build_core.proofs.RunsSeen.{makes_no_root}
use Rattle.build_core.specs.BuildForms.{IsUnitFormed}
use Rattle.make_grammar.specs.Macros.{expansion_limit}
use Rattle.make_grammar.specs.UnitLaws.{IsShort}
use Rattle.build_core.specs.Publishing.{HasObjects, CanPublish}

-- A consistent build of formed units has objects of the base alone.
pub consistent_objects : (b : Base) (build : Build) → AllByRecursion IsUnitFormed build.units → IsConsistent b build
    → HasObjects b build
consistent_objects b build units h = record {
  rootless = λ m unit is. makes_no_root unit (all_at IsUnitFormed build.units m unit units is).0;
  below = λ m unit id is own. (h.objects m unit id is own).below;
}

-- the text of a script within the limit
short_text : (script : UnitScript) → IsShort script → length (script_text script) ≤ expansion_limit
short_text Bare h = omega arith
short_text TooLong h = omega arith
short_text (Lines text) h = h

-- Its units may publish.
pub can_publish : (b : Base) (build : Build) (n : ℕ) (unit : Unit) → IsName build.view → AllByRecursion IsUnitFormed build.units
    → IsConsistent b build → unit_at build n ≡ Some unit → CanPublish b build unit
can_publish b build n unit view units h is = record {
  view = view;
  targets = (all_at IsUnitFormed build.units n unit units is).0;
  script = short_text unit.script (all_at IsUnitFormed build.units n unit units is).1;
  objects = consistent_objects b build units h;
}

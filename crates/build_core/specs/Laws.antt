-- What holds of the units of a build, as a function of `laws` promises it.
use Rattle.std.specs.Prelude.{◌≡◌, ℕ, Some}
use Rattle.std.specs.List.{AllByRecursion}
use Rattle.cc_names.specs.Names.{IsName}
use Rattle.cc_names.specs.declared.units.Unit.{Unit}
use Rattle.base_model.specs.Rows.{Base}
use Rattle.legal_history.specs.Builds.Active.{Build, unit_at}
use Rattle.legal_history.specs.Builds.Consistency.{IsConsistent}
use Rattle.build_core.specs.BuildForms.{IsUnitFormed}
use Rattle.build_core.specs.Publishing.{CanPublish}

-- Each unit of a consistent build of formed units may publish.
abbrev pub UnitMayPublish : Type 0
UnitMayPublish = (b : Base) (build : Build) (n : ℕ) (unit : Unit)
    → IsName build.view
    → AllByRecursion IsUnitFormed build.units
    → IsConsistent b build
    → unit_at build n ≡ Some unit
    → CanPublish b build unit

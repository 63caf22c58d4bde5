-- What is decided of a clearmake.
use Rattle.std.specs.Prelude.{◌≡◌, ℕ, ◌+◌, ◌<◌, ◌^◌, Option, Result, Ok, Err, List, length}
use Rattle.std.specs.List.{AllByRecursion}
use Rattle.cc_names.specs.Answers.{FaultIs}
use Rattle.cc_names.specs.declared.commands.Clearmake.{Clearmake}
use Rattle.cc_names.specs.declared.commands.Command.TheVariants as commands
use Rattle.cc_names.specs.declared.memory.Or.{Or}
use Rattle.cc_names.specs.declared.refusals.Refusal.{Refusal}
use Rattle.cc_names.specs.declared.rows.Tag.{Tag}
use Rattle.cc_names.specs.declared.units.Unit.{Unit}
use Rattle.base_model.specs.Rows.{Base, size}
use Rattle.legal_history.specs.Builds.Active.{Build, building, rows_reserved}
use Rattle.legal_history.specs.Commands.Decisions.{Scene, Decision, Begins}
use Rattle.legal_history.specs.Commands.Lines.{decision}
use Rattle.legal_history.specs.Stories.Steps.{build_asked}
use Rattle.build_core.specs.BuildForms.{IsUnitFormed}

-- The scene in which a build of a view is decided: its base, the active build of the view, and how many rows there are and
-- are reserved.
pub record Meets (s : Scene) (b : Base) (v : List ℕ) (build : Option Tag) (rows : ℕ) : Type 0 where
  pub base : s.base ≡ b
  pub busy : building s.active v ≡ build
  pub taken : size s.base + rows_reserved s.active ≡ rows

-- the form of units, of which there are as many as numbers of four bytes count
pub record AreUnits (units : List Unit) : Type 0 where
  pub formed : AllByRecursion IsUnitFormed units
  pub few : length units < 2 ^ 32

-- the units with which a build was decided to begin, or the refusal that was decided
abbrev pub Begun : Result (List Unit) (Or Refusal) → Result Decision Refusal → Type 0
Begun (Ok units) decision = decision ≡ Ok (Begins units)
Begun (Err fault) decision = FaultIs fault decision

-- the build that was decided to begin, as the command asks for it; or the refusal that was decided
abbrev pub Plans : Tag → Scene → Clearmake → Result Build (Or Refusal) → Type 0
Plans tag s asked (Ok build) =
    (decision s (commands.Build asked) ≡ Ok (Begins build.units)) × (build ≡ build_asked tag (size s.base) build.units asked)
Plans tag s asked (Err fault) = FaultIs fault (decision s (commands.Build asked))

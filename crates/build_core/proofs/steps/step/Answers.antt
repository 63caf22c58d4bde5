-- A unit that was started runs again.
use Rattle.std.proofs.Common.{◌≡◌, ℕ, Some, Result, Ok, Err, IfOk, ap, sym, ◌∙◌}
use Rattle.std.specs.Prelude.{option_copied}
use Rattle.std.specs.Option.{option_map}
use Rattle.cc_names.specs.declared.memory.NoMemory.{NoMemory}
use Rattle.cc_names.specs.declared.units.Unit.{Unit}
use Rattle.base_model.specs.Rows.{Base}
use Rattle.legal_history.specs.Builds.Active.{Build, Started, came_to, is_outcome, unit_at}
use Rattle.build_core.specs.Comes.{came_of}
use Rattle.build_core.specs.UnitSteps.{IsNextOfStarted, IsUnitStep}
use Rattle.build_core.specs.declared.steps.UnitStep.{UnitStep}
use Rattle.build_core.specs.declared.steps.UnitStep.TheVariants as next
use Rattle.build_core.proofs.RunsPublished.{at_index}
use Rattle.build_core.proofs.steps.step.Goals as goal

-- where a unit was started, what is next for it is its step
started_step : (b : Base) (build : Build) (n : ℕ) (unit : Unit) (result : Result UnitStep NoMemory)
    → unit_at build n ≡ Some unit → came_to build n ≡ Some Started → IfOk result (λ step. IsNextOfStarted build n unit step)
    → IfOk result (λ step. IsUnitStep b build n step)
started_step b build n unit (Ok (next.Run script targets)) at came so =
    record { unit = unit; is_unit = at; waits = ap is_outcome came; fresh = tt; next = so }
started_step b build n unit (Ok (next.Fail fault)) at came so =
    record { unit = unit; is_unit = at; waits = ap is_outcome came; fresh = tt; next = so }
started_step b build n unit (Ok next.Concluded) at came so = absurd so
started_step b build n unit (Ok (next.NotReady m)) at came so = absurd so
started_step b build n unit (Ok (next.EndEarly end)) at came so = absurd so
started_step b build n unit (Ok (next.Keep id)) at came so = absurd so
started_step b build n unit (Ok (next.Wink id)) at came so = absurd so
started_step b build n unit (Ok (next.Start script targets)) at came so = absurd so
started_step b build n unit (Ok (next.Unreadable fault)) at came so = absurd so
started_step b build n unit (Err error) at came so = tt

pub returns-in-Some-Started : goal.returns-in-Some-Started
returns-in-Some-Started c =
    let came : came_to c.args.build.now c.args.unit ≡ Some Started = sym c.came_to.ensures
    ∙ ap (λ found. option_map came_of (option_copied found)) c.in-Some-Started.is
    ∙ ap (λ came. Some (came_of came)) c.in-Some-Started.field-0-is in
    let at : unit_at c.args.build.now c.args.unit ≡ Some c.index-units-unit.result =
    at_index c.args.build.now.units c.args.unit c.index-units-unit.result c.requires.unit (cc (
      c.index-units-unit.is,
      c.units.ensures,
    )) in
    started_step c.args.rows.now c.args.build.now c.args.unit c.index-units-unit.result c.run_again.result at came
    (c.run_again.ensures c.args.build.now c.args.unit came)

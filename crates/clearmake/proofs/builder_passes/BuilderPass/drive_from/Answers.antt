use Rattle.clearmake.proofs.Driving.{builder_were}
use Rattle.clearmake.proofs.builder_passes.BuilderPass.drive_from.Goals as goal

pub returns-in-Ok-Run-clause-done : goal.returns-in-Ok-Run-clause-done
returns-in-Ok-Run-clause-done g c =
    builder_were c.try_units-pass.result.0 c.run_started-pass.result.0 c.try_units-pass.result.1.unit
    c.run_started-pass.ensures.pass c.try_units-pass.ensures.done

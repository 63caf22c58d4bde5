use Rattle.std.proofs.Common.{subst, sym}
use Rattle.std.specs.Prelude.{OnOk}
use Rattle.base_core.specs.Story.Shown.{Shown}
use Rattle.clearmake.specs.Passes.{AreLanesDone}
use Rattle.session_run.proofs.threads.run_lanes_at.Goals as goal

pub returns-clause-finished : goal.returns-clause-finished
returns-clause-finished g c =
    subst (λ (shown : Shown). OnOk c.run_phase-service.result.1 (AreLanesDone shown.story 1 c.args.lanes _))
    (sym c.service.view_is) c.run_phase-service.ensures.finished

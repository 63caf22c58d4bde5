use Rattle.std.proofs.Common.{OnOk, List, subst, sym}
use Rattle.cc_names.specs.declared.steps.StoryStep.{StoryStep}
use Rattle.clearmake.specs.Passes.{AreLanesDone}
use Rattle.clearmake.proofs.phases.run_phase.Goals as goal

pub returns-in-Ok-clause-finished : goal.returns-in-Ok-clause-finished
returns-in-Ok-clause-finished g c =
    subst (λ (story : List StoryStep). OnOk c.run_lanes_twice-pass.result.1
    (AreLanesDone story 1 c.args.lanes g.C.PhaseService.number))
    (sym c.close.ensures) c.run_lanes_twice-pass.ensures.finished

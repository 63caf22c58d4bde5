use Rattle.legal_history.specs.Stories.Steps.{state_of}
use Rattle.session_run.proofs.Faults.Stopping.{mended_by}
use Rattle.session_run.proofs.run.settle.Goals as goal

pub returns-clause-mended : goal.returns-clause-mended
returns-clause-mended g c =
    mended_by c.finish.result (state_of c.finish.new.self.story) c.finish.new.self.ghost_state c.finish.ensures.ok
    c.finish.ensures.err

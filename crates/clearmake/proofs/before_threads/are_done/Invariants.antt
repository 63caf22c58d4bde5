use Rattle.clearmake.specs.Passes.{AreLanesDone}
use Rattle.clearmake.proofs.before_threads.are_done.Given as goal

-- the lanes so far have nothing left to do
abbrev pub invariant-loop-index : goal.invariant-loop-index
invariant-loop-index g l = AreLanesDone (g.T.Storied.story l.fn.service) 1 l.index g.T.PhaseService.number

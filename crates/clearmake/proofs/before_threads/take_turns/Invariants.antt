use mathlib.Core.List.{IsPrefix}
use Rattle.clearmake.proofs.before_threads.take_turns.Given as goal

abbrev pub invariant-loop-index : goal.invariant-loop-index
invariant-loop-index g l = IsPrefix (g.T.Storied.story l.initial.service) (g.T.Storied.story l.service)

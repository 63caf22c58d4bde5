use mathlib.Core.List.{IsPrefix}
use Rattle.clearmake.specs.Passes.{HasBegun}
use Rattle.clearmake.proofs.tasks.do_tasks_at.Given as goal

abbrev pub invariant-loop : goal.invariant-loop
invariant-loop g l = IsPrefix (g.T.Storied.story l.initial.service) (g.T.Storied.story l.service)
    × HasBegun (g.T.Storied.story l.service) l.fn.context.tag l.fn.context.count

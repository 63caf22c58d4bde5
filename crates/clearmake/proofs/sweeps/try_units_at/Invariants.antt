use mathlib.Core.List.{IsPrefix}
use Rattle.clearmake.specs.Passes.{HasBegun, WereDone}
use Rattle.clearmake.proofs.sweeps.try_units_at.Given as goal

-- the units so far had their outcomes
abbrev pub invariant-loop-unit : goal.invariant-loop-unit
invariant-loop-unit g l = IsPrefix (g.T.Storied.story l.initial.service) (g.T.Storied.story l.service)
    × HasBegun (g.T.Storied.story l.service) l.fn.context.tag l.fn.context.count
    × WereDone (g.T.Storied.story l.service) l.fn.context.tag l.fn.context.count l.unit

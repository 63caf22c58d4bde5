use Rattle.std.proofs.Common.{◌≡◌, None, replicate}
use Rattle.build_core.proofs.active.no_closures.Given as goal

abbrev pub invariant-loop-unit : goal.invariant-loop-unit
invariant-loop-unit l = l.closures.items ≡ replicate l._unit None

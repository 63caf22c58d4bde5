use Rattle.std.proofs.Common.{◌≡◌, [], replicate}
use Rattle.make_graph.proofs.dependants.none_of.Given as goal

abbrev pub invariant-loop-unit : goal.invariant-loop-unit
invariant-loop-unit l = l.all.items ≡ replicate l._unit []

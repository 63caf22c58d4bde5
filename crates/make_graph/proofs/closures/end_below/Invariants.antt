use Rattle.std.proofs.Common.{◌≤◌, take}
use Rattle.make_graph.specs.Marks.{IsEndBelow}
use Rattle.make_graph.proofs.closures.end_below.Given as goal

abbrev pub invariant-loop-number : goal.invariant-loop-number
invariant-loop-number l = record {
  within : l.end ≤ l.below;
  all : IsEndBelow l.below (take l.number-index l.numbers) l.end;
}

use Rattle.std.proofs.Common.{◌≤◌, length}
use Rattle.make_graph.proofs.MarkLemmas.{HasMarks}
use Rattle.make_graph.proofs.closures.of_unit.Given as goal

abbrev pub invariant-loop-number : goal.invariant-loop-number
invariant-loop-number l = record {
  room : l.number ≤ length l.marks;
  below : l.number ≤ l.unit;
  marks : HasMarks l.graph l.unit l.number l.marks;
}

abbrev pub decreases-loop-number : goal.decreases-loop-number
decreases-loop-number l = l.number

use Rattle.std.proofs.Common.{◌≡◌, length, take}
use Rattle.make_graph.specs.Marks.{AddsMarks}
use Rattle.make_graph.proofs.closures.mark_all.Given as goal

abbrev pub invariant-loop-number : goal.invariant-loop-number
invariant-loop-number l = record {
  length : length l.marks ≡ length l.initial.marks;
  marks : AddsMarks l.below (take l.number-index l.numbers) l.initial.marks l.marks;
}

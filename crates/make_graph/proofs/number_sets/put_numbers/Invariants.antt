use Rattle.std.proofs.Common.{◌≡◌, length, take}
use Rattle.make_graph.proofs.NumberSetLemmas.{Joined}
use Rattle.make_graph.proofs.number_sets.put_numbers.Given as goal

abbrev pub invariant-loop-index : goal.invariant-loop-index
invariant-loop-index l = record {
  length : length l.words.items ≡ length l.initial.words.items;
  words : Joined l.initial.words.items (take l.index l.other) l.words.items;
}

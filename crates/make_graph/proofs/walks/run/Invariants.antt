use Rattle.std.proofs.Common.{◌≡◌, ◌≤◌, ◌+◌, ◌∷◌, [], length}
use Rattle.make_graph.specs.Visits.{resume, news}
use Rattle.make_graph.proofs.walks.run.Given as goal

abbrev pub invariant-loop-turn : goal.invariant-loop-turn
invariant-loop-turn l = record {
  goes : resume l.units 0 (l.fn.first ∷ []) l.fn.walk ≡ resume l.units 0 l.stack.items l.walk;
  room : length l.stack.items + news l.walk.marks ≤ length l.units;
  size : length l.walk.marks ≡ length l.fn.walk.marks;
}

use Rattle.std.proofs.Common.{◌≡◌, suc, drop, length}
use Rattle.make_grammar.specs.Walks.{each_of, take_path, walk_of}
use Rattle.make_graph.proofs.walks.walk_over.Given as goal

abbrev pub invariant-loop-goal : goal.invariant-loop-goal
invariant-loop-goal l = record {
  goes : each_of (take_path (suc (length l.units)) l.units) (drop l.goal-index l.goals) l.walk ≡ walk_of l.units l.goals;
  size : length l.walk.marks ≡ length l.units;
}

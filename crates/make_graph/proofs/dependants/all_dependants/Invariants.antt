use Rattle.std.proofs.Common.{◌≡◌, ℕ, ◌<◌, [], length, get_or}
use Rattle.make_graph.proofs.DependantLemmas.{dependants_before}
use Rattle.make_graph.proofs.dependants.all_dependants.Given as goal

abbrev pub invariant-loop-unit : goal.invariant-loop-unit
invariant-loop-unit l = record {
  size : length l.all.items ≡ length l.makers;
  lists : (m : ℕ) → m < length l.all.items → get_or l.all.items m [] ≡ dependants_before l._units l.unit m;
}

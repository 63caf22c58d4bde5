use Rattle.std.proofs.Common.{◌≡◌, ℕ, take, length}
use Rattle.std.specs.List.{list_any}
use Rattle.make_graph.specs.NumberSets.{brings_marked, room_below}
use Rattle.make_graph.specs.Waits.{is_marked}
use Rattle.make_graph.proofs.cached_closures.next_set.Given as goal

abbrev pub invariant-loop-maker : goal.invariant-loop-maker
invariant-loop-maker l = record {
  room : length l.set ≡ room_below (length l.sets);
  marks : (n : ℕ) → is_marked l.set n ≡ list_any (brings_marked l.sets n) (take l.maker-index l.makers);
}

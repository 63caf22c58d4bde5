use Rattle.std.proofs.Common.{◌≡◌, length}
use Rattle.make_graph.specs.NumberSets.{AreClosures, HaveRooms}
use Rattle.make_graph.proofs.cached_closures.cached_closures.Given as goal

abbrev pub invariant-loop-made_by : goal.invariant-loop-made_by
invariant-loop-made_by l = record {
  count : length l.sets.items ≡ l.made_by-index;
  rooms : HaveRooms l.sets.items;
  closures : AreClosures l._units l.sets.items;
}

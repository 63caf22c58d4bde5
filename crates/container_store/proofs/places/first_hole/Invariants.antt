-- All holes so far are shorter.
use Rattle.std.proofs.Common.{◌≡◌, ◌<◌, take}
use Rattle.container_store.specs.Places.{last_behind, HasNoLonger}
use Rattle.container_store.proofs.places.first_hole.Given as goal

abbrev pub invariant-loop-at : goal.invariant-loop-at
invariant-loop-at l = (l.from ≡ last_behind 0 (take l.at l.taken)) × HasNoLonger l.longest 0 (take l.at l.taken)
    × (l.longest < l.length)

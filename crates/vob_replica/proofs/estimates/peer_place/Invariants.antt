use Rattle.std.proofs.Common.{◌≡◌, ◌+◌, drop}
use Rattle.vob_replica.specs.Estimates.{peer_place_in}
use Rattle.vob_replica.proofs.estimates.peer_place.Given as goal

abbrev pub invariant-loop-peer : goal.invariant-loop-peer
invariant-loop-peer l = record {
  at : l.place ≡ l.peer-index;
  same : l.place + peer_place_in (drop l.peer-index l.peers) l.site ≡ peer_place_in l.peers l.site;
}

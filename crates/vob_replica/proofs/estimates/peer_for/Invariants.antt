use Rattle.std.proofs.Common.{◌≡◌, drop}
use Rattle.vob_replica.specs.Estimates.{peer_in}
use Rattle.vob_replica.proofs.estimates.peer_for.Given as goal

abbrev pub invariant-loop-peer : goal.invariant-loop-peer
invariant-loop-peer l = peer_in (drop l.peer-index l.peers) l.site ≡ peer_in l.peers l.site

use Rattle.std.proofs.Common.{◌≡◌, ◌<◌, ◌≤◌, length, get_or, refl, rules}
use Rattle.vob_replica.specs.Estimates.{peer_place_in}
use Rattle.vob_replica.proofs.PeerLaws.{set-there, push-new}
use Rattle.vob_replica.proofs.estimates.put_peer.Goals as goal

-- the site is a peer
pub returns-then-place-len : goal.returns-then-place-len
returns-then-place-len c =
    let peers = c.args.peers.now.items in
    let peer = c.args.peer in
    let at : c.peer_place-place.result ≡ peer_place_in peers peer.estimate.site = search rules in
    let within : c.peer_place-place.result < length peers = search rules in
    let there : c.index_mut-there.result.now ≡ get_or peers c.peer_place-place.result c.index_mut-there.result.now = search rules
    in
    set-there peers c.peer_place-place.result peer.estimate.site peer.estimate.table peer.exported c.index_mut-there.result.now at
    within there

-- it is none
pub returns : goal.returns
returns c =
    let peers = c.args.peers.now.items in
    let peer = c.args.peer in
    let at : c.peer_place-place.result ≡ peer_place_in peers peer.estimate.site = search rules in
    let past : length peers ≤ c.peer_place-place.result = search rules in
    push-new peers c.push_reserved.new.self.items c.peer_place-place.result peer.estimate.site peer.estimate.site
    peer.estimate.table peer.exported c.push_reserved.ensures.items refl at past

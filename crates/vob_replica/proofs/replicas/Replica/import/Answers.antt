use Rattle.std.proofs.Common.{◌≡◌, Ok, List, sym, ap, ◌∙◌, subst, rules}
use Rattle.vob_replica.specs.declared.estimates.Peer.{Peer}
use Rattle.vob_replica.specs.declared.operations.Operation.{Operation}
use Rattle.vob_replica.specs.Estimates.{estimates_of, exported_in, peer_by, with_peer, AreExported}
use Rattle.vob_replica.specs.Replicas.{Site, AreBranchesOf, estimate_in, imported, operations_after_import}
use Rattle.vob_replica.specs.Tables.{raised_by}
use Rattle.vob_replica.proofs.PeerLaws.{site_thinking, exported-import, exported-set, imported-ok}
use Rattle.vob_replica.proofs.ReplicaLaws.{taken-import}
use Rattle.vob_replica.proofs.replicas.Replica.import.Goals as goal

-- the branches stay those of the first operations
pub catch_up-caught_up-requires : goal.catch_up-caught_up-requires
catch_up-caught_up-requires c =
    subst (AreBranchesOf c.self.inside.branches c.self.inside.taken) (sym c.operations-2.ensures)
    (taken-import c.self.inside.log c.operations.result.now c.import_operations.new.self c.self.inside.branches
    c.self.inside.taken c.self.invariant.0 c.in-Ok.ensures.ok)

-- the first ones stay exported to the site's peers
pub invariant_of-self-2 : goal.invariant_of-self-2
invariant_of-self-2 c =
    let after = c.import_operations.new.self in
    let peers = c.self.inside.peers.items in
    let peer = c.in_ok-peer.peer in
    let are : AreExported after peers =
    exported-import c.self.inside.log c.operations.result.now after peers c.self.invariant.1 c.in-Ok.ensures.ok in
    let here : AreExported after c.deref.result.now = subst (AreExported after) (sym c.deref.ensures.value) are in (
      search rules,
      subst (AreExported after) (sym c.put_peer.ensures)
          (exported-set after c.reserve.new.self.items peer.estimate.site peer.estimate.table peer.exported
          (subst (AreExported after) (sym c.reserve.ensures.items) are) (c.in_ok-peer.ensures.exported after here)),
      tt,
    )

-- its operations are added, and the estimate of the sender is raised
pub returns : goal.returns
returns c =
    let name = c.self.inside.name in
    let known = c.self.inside.log in
    let after = c.import_operations.new.self in
    let peers = c.self.inside.peers.items in
    let new = c.put_peer.new.peers.items in
    let packet = c.args.packet.now in
    let is : operations_after_import known packet.operations ≡ Ok after =
    ap (λ (l : List Operation). operations_after_import known l) (sym c.operations.ensures) ∙ c.in-Ok.ensures.ok in
    let peer : c.in_ok-peer.peer ≡ peer_by packet.sender
    (raised_by (estimate_in (estimates_of peers) packet.sender) packet.table) (exported_in peers packet.sender) = search rules in
    let set : new ≡ with_peer peers packet.sender (raised_by (estimate_in (estimates_of peers) packet.sender) packet.table)
    (exported_in peers packet.sender) =
    c.put_peer.ensures
    ∙ ap (λ (p : Peer). with_peer c.reserve.new.self.items p.estimate.site p.estimate.table p.exported) peer
    ∙ ap (λ (l : List Peer). with_peer l packet.sender
    (raised_by (estimate_in (estimates_of peers) packet.sender) packet.table) (exported_in peers packet.sender))
    c.reserve.ensures.items in
    subst (λ (s : Site). imported s packet ≡ (Ok c.in-Ok.count, site_thinking name after new)) c.self.view_is
    (imported-ok name known after peers new packet c.in-Ok.count (exported_in peers packet.sender) is c.in-Ok.ensures.count set)

use Rattle.std.proofs.Common.{◌≡◌, List, length, sym, ap, ◌∙◌, subst}
use Rattle.vob_replica.specs.declared.events.Identity.{Identity}
use Rattle.vob_replica.specs.declared.operations.Operation.{Operation}
use Rattle.vob_replica.specs.Estimates.{AreExported}
use Rattle.vob_replica.specs.Replicas.{Site, above, thinking}
use Rattle.vob_replica.specs.Tables.{table_of}
use Rattle.vob_replica.proofs.PeerLaws.{site_thinking, exported-set, thinks, IsExported-all}
use Rattle.vob_replica.proofs.replicas.Replica.export.Goals as goal

-- all operations were exported to the site
pub invariant_of-self-2 : goal.invariant_of-self-2
invariant_of-self-2 c =
    let known = c.self.inside.log in
    let table = c.in_ok-estimate.estimate in
    let count = length c.operations-exported.result.now in
    let none = ap (λ (t : List Identity). above t known) (c.in_ok-estimate.ensures ∙ c.table-2.ensures.table)
    ∙ c.table-2.ensures.all in (
      c.self.invariant.0,
      subst (AreExported known) (sym c.in_ok-set_peer.ensures.ok)
          (exported-set known c.self.inside.peers.items c.args.to.now table count c.self.invariant.1
          (IsExported-all known table count none (ap (λ (l : List Operation). length l) c.operations-exported.ensures))),
      c.self.invariant.2,
    )

pub returns-clause-ok : goal.returns-clause-ok
returns-clause-ok c =
    let name = c.self.inside.name in
    let known = c.self.inside.log in
    let peers = c.self.inside.peers.items in
    let new = c.set_peer.new.peers.items in
    let to = c.args.to.now in
    let count = length c.operations-exported.result.now in
    subst (λ (s : Site). site_thinking name known new ≡ thinking s to (table_of s.known)) c.self.view_is
    (thinks name known peers new to c.in_ok-estimate.estimate count c.in_ok-set_peer.ensures.ok
    ∙ ap (λ (t : List Identity). thinking (site_thinking name known peers) to t)
    (c.in_ok-estimate.ensures ∙ c.table-2.ensures.table))

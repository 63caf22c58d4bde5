use Rattle.std.proofs.Common.{◌≡◌, List, [], refl, subst}
use Rattle.std.specs.Prelude.{OnOk}
use Rattle.vob_replica.specs.declared.events.Identity.{Identity}
use Rattle.vob_replica.specs.Replicas.{Site, thinking}
use Rattle.vob_replica.proofs.PeerLaws.{site_thinking, exported-after, IsExported-none, ok-thinks}
use Rattle.vob_replica.proofs.replicas.Replica.recover.Goals as goal

-- nothing was exported to the site
pub invariant_of-self : goal.invariant_of-self
invariant_of-self c = (
  c.self.invariant.0,
  exported-after c.set_peer.result c.self.inside.log c.self.inside.peers.items c.set_peer.new.peers.items c.args.to.now
      c.new.result 0
      c.set_peer.ensures.ok c.set_peer.ensures.err c.self.invariant.1 (IsExported-none c.self.inside.log c.new.result 0 refl),
  c.self.invariant.2,
)

pub returns-clause-ok : goal.returns-clause-ok
returns-clause-ok c =
    let name = c.self.inside.name in
    let known = c.self.inside.log in
    let new = c.set_peer.new.peers.items in
    subst (λ (s : Site). OnOk c.set_peer.result (site_thinking name known new ≡ thinking s c.args.to.now [])) c.self.view_is
    (subst (λ (t : List Identity). OnOk c.set_peer.result (site_thinking name known new
    ≡ thinking (site_thinking name known c.self.inside.peers.items) c.args.to.now t)) c.new.ensures
    (ok-thinks c.set_peer.result name known c.self.inside.peers.items new c.args.to.now c.new.result 0 c.set_peer.ensures.ok))

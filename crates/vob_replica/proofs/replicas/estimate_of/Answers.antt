use Rattle.std.proofs.Common.{◌≡◌, None, Some, List, ◌∙◌, subst}
use Rattle.std.specs.Prelude.{IfOk}
use Rattle.vob_replica.specs.declared.events.Identity.{Identity}
use Rattle.vob_replica.proofs.PeerLaws.{found-table}
use Rattle.vob_replica.proofs.replicas.estimate_of.Goals as goal

pub returns-in-Some : goal.returns-in-Some
returns-in-Some c =
    subst (λ (t : List Identity). IfOk c.copy.result (λ (table : List Identity). table ≡ t))
    (found-table c.args.peers.now c.args.site.now (Some c.in-Some.peer.now) c.in-Some.ensures) c.copy.ensures

pub returns-in-None : goal.returns-in-None
returns-in-None c = c.new.ensures ∙ found-table c.args.peers.now c.args.site.now None c.in-None.ensures

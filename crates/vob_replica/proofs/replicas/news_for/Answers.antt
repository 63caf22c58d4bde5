use Rattle.std.proofs.Common.{◌≡◌, None, Some, List, ◌∙◌, subst}
use Rattle.std.specs.Prelude.{IfOk, Vec}
use Rattle.std.specs.declared.alloc.Global.{Global}
use Rattle.vob_replica.specs.declared.events.Identity.{Identity}
use Rattle.vob_replica.specs.declared.operations.Operation.{Operation}
use Rattle.vob_replica.specs.Logs.{IsWhole}
use Rattle.vob_replica.specs.Replicas.{above}
use Rattle.vob_replica.proofs.PeerLaws.{found-table, found-exported}
use Rattle.vob_replica.proofs.replicas.news_for.Goals as goal

-- some were exported to the site
pub above-requires-clause-within : goal.above-requires-clause-within
above-requires-clause-within c =
    (found-exported c.args.log.now c.args.peers.now c.args.to.now (Some c.in-Some.peer.now) c.in-Some.ensures c.requires).within

pub above-requires-clause-first : goal.above-requires-clause-first
above-requires-clause-first c =
    (found-exported c.args.log.now c.args.peers.now c.args.to.now (Some c.in-Some.peer.now) c.in-Some.ensures c.requires).all

pub returns-in-Some-clause-above : goal.returns-in-Some-clause-above
returns-in-Some-clause-above c =
    subst (λ (t : List Identity). IfOk c.above.result (λ (news : Vec Operation Global). news.items ≡ above t c.args.log.now))
    (found-table c.args.peers.now c.args.to.now (Some c.in-Some.peer.now) c.in-Some.ensures) c.above.ensures.above

pub returns-in-Some-clause-whole : goal.returns-in-Some-clause-whole
returns-in-Some-clause-whole c =
    subst (λ (t : List Identity). IfOk c.above.result (λ (news : Vec Operation Global). IsWhole t news.items))
    (found-table c.args.peers.now c.args.to.now (Some c.in-Some.peer.now) c.in-Some.ensures) c.above.ensures.whole

-- none were
pub returns-in-None-clause-above : goal.returns-in-None-clause-above
returns-in-None-clause-above c =
    subst (λ (t : List Identity). IfOk c.above-in-None-2.result (λ (news : Vec Operation Global). news.items
    ≡ above t c.args.log.now))
    (c.new.ensures ∙ found-table c.args.peers.now c.args.to.now None c.in-None.ensures) c.above-in-None-2.ensures.above

pub returns-in-None-clause-whole : goal.returns-in-None-clause-whole
returns-in-None-clause-whole c =
    subst (λ (t : List Identity). IfOk c.above-in-None-2.result (λ (news : Vec Operation Global). IsWhole t news.items))
    (c.new.ensures ∙ found-table c.args.peers.now c.args.to.now None c.in-None.ensures) c.above-in-None-2.ensures.whole

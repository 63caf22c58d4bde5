use Rattle.std.proofs.Common.{◌∙◌}
use Rattle.clearmake.proofs.Begun.{begun_on, builder_later}
use Rattle.clearmake.proofs.Joins.{joined_later}
use Rattle.clearmake.proofs.builder_passes.+BuilderPass-build_shares+fn-BuilderPass-build_shares-join+arg2+fn-BuilderPass-build_shares-join+arg3.Goals as goal

pub returns : goal.returns
returns g t c =
    builder_later c.args.self c.self.inside.pass c.join-pass.result c.self.inside.context.now.tag
    c.self.inside.context.now.count c.self.view_is
    (joined_later c.self.inside.pass c.split-one.result.0 c.split-one.result.1 c.join-two.result.1 c.join-two.result.0
    c.join-pass.result c.split-one.ensures.own.0 c.split-one.ensures.weight c.split-one.ensures.seen c.join-two.ensures.second
    c.join-two.ensures.first c.join-pass.ensures.own c.join-pass.ensures.weight c.join-pass.ensures.seen)

pub invariant_of-result-2 : goal.invariant_of-result-2
invariant_of-result-2 g t c =
    let joined = joined_later c.self.inside.pass c.split-one.result.0 c.split-one.result.1 c.join-two.result.1
    c.join-two.result.0 c.join-pass.result c.split-one.ensures.own.0 c.split-one.ensures.weight c.split-one.ensures.seen
    c.join-two.ensures.second c.join-two.ensures.first c.join-pass.ensures.own c.join-pass.ensures.weight
    c.join-pass.ensures.seen in
    (joined.lock ∙ c.self.invariant.0, begun_on _ _ _ _ c.self.invariant.1 joined.begins)

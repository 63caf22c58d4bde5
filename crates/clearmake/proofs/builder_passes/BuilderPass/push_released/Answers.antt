use Rattle.turn_lock.proofs.Prefixes.{begins_itself}
use Rattle.clearmake.proofs.Begun.{turn_later}
use Rattle.clearmake.proofs.builder_passes.BuilderPass.push_released.Goals as goal

pub returns : goal.returns
returns g c =
    turn_later c.args.self c.self.inside.pass c.give-pass.result c.self.inside.context.now.tag c.self.inside.context.now.count
    c.take-held.result.0 _ _ c.self.view_is c.take-held.ensures.own c.take-held.ensures.weight c.take-held.ensures.seen
    (begins_itself _)
    c.give-pass.ensures.own c.give-pass.ensures.weight c.give-pass.ensures.seen

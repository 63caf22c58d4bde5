use Rattle.clearmake.proofs.Begun.{turn_later}
use Rattle.clearmake.proofs.builder_passes.BuilderPass.begin_tasks.Goals as goal

pub returns-clause-pass : goal.returns-clause-pass
returns-clause-pass g c =
    turn_later c.args.self c.self.inside.pass c.give-pass.result c.self.inside.context.now.tag c.self.inside.context.now.count
    c.take-held.result.0 _ _ c.self.view_is c.take-held.ensures.own c.take-held.ensures.weight c.take-held.ensures.seen
    c.do_tasks_at-started.ensures.begins
    c.give-pass.ensures.own c.give-pass.ensures.weight c.give-pass.ensures.seen

use Rattle.clearmake.proofs.Driving.{tries_so}
use Rattle.clearmake.proofs.drives.try_at.Goals as goal

pub returns-clause-begins : goal.returns-clause-begins
returns-clause-begins g c =
    (tries_so (g.T.Storied.story c.args.service.now) (g.T.Storied.story c.try_unit-turn.new.self) c.args.context.now.tag
    c.args.context.now.count c.args.unit c.try_unit-turn.result
    c.if-not-goes_on.ensures.on c.try_unit-turn.ensures.ok c.try_unit-turn.ensures.err c.legal.ensures).0

pub returns-clause-tried : goal.returns-clause-tried
returns-clause-tried g c =
    (tries_so (g.T.Storied.story c.args.service.now) (g.T.Storied.story c.try_unit-turn.new.self) c.args.context.now.tag
    c.args.context.now.count c.args.unit c.try_unit-turn.result
    c.if-not-goes_on.ensures.on c.try_unit-turn.ensures.ok c.try_unit-turn.ensures.err c.legal.ensures).1

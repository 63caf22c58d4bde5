use Rattle.build_script.specs.Ended.{ran_of}
use Rattle.clearmake.proofs.Driving.{finishes_so, run_now}
use Rattle.clearmake.proofs.drives.finish_at.Goals as goal

pub finish_unit-end-requires : goal.finish_unit-end-requires
finish_unit-end-requires g c =
    run_now c.args.start.now.value.seen (g.T.Storied.story c.args.service.now) c.args.context.now.tag c.args.context.now.count
    c.args.unit (ran_of c.args.ended)
    c.requires.builds c.requires.ran c.requires.begins c.goes_on.ensures.legal c.if-not-goes_on.ensures.on

pub returns-clause-begins : goal.returns-clause-begins
returns-clause-begins g c =
    (finishes_so (g.T.Storied.story c.args.service.now) (g.T.Storied.story c.finish_unit-end.new.self) c.args.context.now.tag
    c.args.context.now.count c.args.unit c.finish_unit-end.result
    c.if-not-goes_on.ensures.on c.finish_unit-end.ensures.ok c.finish_unit-end.ensures.err c.legal.ensures).0

pub returns-clause-driven : goal.returns-clause-driven
returns-clause-driven g c =
    (finishes_so (g.T.Storied.story c.args.service.now) (g.T.Storied.story c.finish_unit-end.new.self) c.args.context.now.tag
    c.args.context.now.count c.args.unit c.finish_unit-end.result
    c.if-not-goes_on.ensures.on c.finish_unit-end.ensures.ok c.finish_unit-end.ensures.err c.legal.ensures).1

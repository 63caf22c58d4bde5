use Rattle.clearmake.proofs.Driving.{over_now}
use Rattle.clearmake.proofs.builds.end_at.Goals as goal

pub end-requires : goal.end-requires
end-requires g c =
    over_now c.args.seen.now.value.seen (g.T.Storied.story c.args.service.now) c.args.context.now.tag c.args.context.now.count
    c.requires.done c.requires.begins c.goes_on.ensures.legal c.if-not-goes_on.ensures.on

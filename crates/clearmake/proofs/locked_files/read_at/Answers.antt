use Rattle.clearmake.proofs.Rereads.{reads_same}
use Rattle.clearmake.proofs.locked_files.read_at.Goals as goal

pub returns-clause-read : goal.returns-clause-read
returns-clause-read g c =
    reads_same c.args.start.now.value.seen (g.T.Storied.story c.args.service.now) c.args.context.now.tag c.args.context.now.count
    c.args.unit c.args.path.now c.fetch.result
    c.requires.builds c.requires.started c.requires.begins c.goes_on.ensures.legal c.if-not-goes_on.ensures.on c.fetch.ensures

-- the text of a form that reads the source
use Rattle.session_run.proofs.Calls.Ready.{gives_read}
use Rattle.session_run.proofs.sessions.text_read.Goals as goal

pub returns-in-Ok-clause-gives : goal.returns-in-Ok-clause-gives
returns-in-Ok-clause-gives g c form reads =
    gives_read form _ (g.S.Source.ghost_state c.args.source.now) (g.S.Source.ghost_state c.read_whole.new.source) c.in-Ok.text
    reads
    c.in-Ok.ensures.bytes c.in-Ok.ensures.end c.in-Ok.ensures.short c.in-Ok.ensures.counted c.in-Ok.ensures.faultless

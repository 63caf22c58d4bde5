-- the line that is written is that of the base
use Rattle.std.proofs.Common.{◌≡◌, sym, subst, ◌∙◌}
use Rattle.std.specs.Io.KnownBytes.{Appends}
use Rattle.cc_outside.specs.Feeds.{AppendsPrefix}
use Rattle.legal_history.specs.Stories.Steps.{state_of}
use Rattle.session_run.proofs.Running.Verdicts.{failure_so, line_so}
use Rattle.session_run.proofs.checks.write_check.Goals as goal

pub returns-in-Ok-clause-found : goal.returns-in-Ok-clause-found
returns-in-Ok-clause-found g c =
    failure_so (state_of c.args.core.now.story).base c.in_ok-verdict.verdict c.in_ok-verdict.ensures ∙ sym c.is_unsound.ensures

pub returns-in-Ok-clause-ok : goal.returns-in-Ok-clause-ok
returns-in-Ok-clause-ok g c =
    let bytes : c.as_bytes.result.now ≡ c.verdict_line.result.bytes = cc in
    subst (Appends (g.K.Sink.ghost_state c.args.sink.now).held (g.K.Sink.ghost_state c.write_whole.new.sink).held)
    (bytes ∙ c.verdict_line.ensures ∙ line_so (state_of c.args.core.now.story).base c.in_ok-verdict.verdict
    c.in_ok-verdict.ensures)
    c.in-Ok.ensures.written

pub returns-in-Err-clause-err : goal.returns-in-Err-clause-err
returns-in-Err-clause-err g c =
    let bytes : c.as_bytes.result.now ≡ c.verdict_line.result.bytes = cc in
    subst (AppendsPrefix (g.K.Sink.ghost_state c.args.sink.now).held (g.K.Sink.ghost_state c.write_whole.new.sink).held)
    (bytes ∙ c.verdict_line.ensures ∙ line_so (state_of c.args.core.now.story).base c.in_ok-verdict.verdict
    c.in_ok-verdict.ensures)
    c.in-Err.ensures.prefix

-- The line that says which line says nothing is that of the status.
use Rattle.std.proofs.Common.{◌≡◌, ℕ, Option, List, ap, subst, sym, ◌∙◌}
use Rattle.std.specs.Prelude.{Result, Err}
use Rattle.cc_names.specs.Answers.{FaultIs}
use Rattle.cc_names.specs.declared.refusals.SessionError.{SessionError}
use Rattle.vob_replica.specs.Runs.{run_of}
use Rattle.vob_replica.specs.declared.events.SiteError.{SiteError}
use Rattle.vob_replica.specs.declared.runs.Replies.{Replies}
use Rattle.session_run.specs.Calls.Causes.{Change}
use Rattle.session_run.specs.Calls.Sites.{session_error}
use Rattle.session_run.specs.Running.Unstarted.{WritesResult, WritesUnstarted}
use Rattle.session_run.specs.declared.sessions.Unstarted.TheVariants as why
use Rattle.session_run.specs.declared.statuses.Status.{Status}
use Rattle.session_run.proofs.sites.reply.Goals as goal

-- a line of the text says nothing, and its line was written
wrong_line : (run : Result Replies SiteError) (error : SiteError) (said : SessionError) (status : Status)
    (old new : Option (List ℕ)) (faults : Change ℕ) → run ≡ Err error → said ≡ session_error error
    → WritesUnstarted (why.BadSession said) status old new faults → WritesResult run status old new faults
wrong_line run error said status old new faults is same h =
    let written = subst (λ e. WritesUnstarted (why.BadSession e) status old new faults) same h in
    subst (λ r. WritesResult r status old new faults) (sym is) (record {
      answer = written.answer;
      whole = written.whole;
      prefix = written.prefix;
      nothing = written.nothing;
      fault = written.fault;
      kept = written.kept;
    })

pub returns-in-Err-Is-clause-writes : goal.returns-in-Err-Is-clause-writes
returns-in-Err-Is-clause-writes g c = wrong_line (run_of c.args.text) c.in-Err-Is.error c.session_error.result c.write_unstarted.result _ _ _
    (ap run_of (sym c.as_bytes.ensures)
    ∙ subst (λ fault. FaultIs fault (run_of c.as_bytes.result.now)) c.in-Err-Is.field-0-is c.in-Err-Is.ensures)
    c.session_error.ensures c.write_unstarted.ensures.writes

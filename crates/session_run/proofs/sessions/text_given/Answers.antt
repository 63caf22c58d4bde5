-- the text of each form
use Rattle.std.proofs.Common.{ap, refl, Some}
use Rattle.session_run.specs.Calls.Asked.{reads_source}
use Rattle.session_run.specs.declared.words.Form.{Form}
use Rattle.session_run.proofs.Calls.Ready.{gives_big, gives_none, takes_none}
use Rattle.session_run.proofs.sessions.text_given.Goals as goal

pub returns-in-Run : goal.returns-in-Run
returns-in-Run g c =
    let reads = ap (λ (form : Form). reads_source (Some form)) c.in-Run.is in
    record {
      gives = c.text_read.ensures.gives c.args.form reads;
      why = c.text_read.ensures.why c.args.form reads;
      taken = c.text_read.ensures.taken c.args.form reads;
    }

pub returns-in-Sites : goal.returns-in-Sites
returns-in-Sites g c =
    let reads = ap (λ (form : Form). reads_source (Some form)) c.in-Sites.is in
    record {
      gives = c.text_read-in-Sites.ensures.gives c.args.form reads;
      why = c.text_read-in-Sites.ensures.why c.args.form reads;
      taken = c.text_read-in-Sites.ensures.taken c.args.form reads;
    }

pub returns-in-Ok-clause-gives : goal.returns-in-Ok-clause-gives
returns-in-Ok-clause-gives g c =
    let said = rw c.in-Big.is at c.requires in
    rw c.in-Big.is (gives_big c.in-Big.seed c.in-Big.size _ c.in-Ok.text
    (record { text = refl; given = refl; calls = refl; faults = refl })
    said
    c.in-Ok.ensures.text c.in-Ok.ensures.short)

pub returns-in-Verify-clause-gives : goal.returns-in-Verify-clause-gives
returns-in-Verify-clause-gives g c =
    rw c.in-Verify.is (gives_none _ c.of.result (record { text = refl; given = refl; calls = refl; faults = refl }) (cc))

pub returns-in-Ok-clause-taken : goal.returns-in-Ok-clause-taken
returns-in-Ok-clause-taken g c = takes_none _ (record { text = refl; given = refl; calls = refl; faults = refl }) refl

pub returns-in-Err-clause-taken : goal.returns-in-Err-clause-taken
returns-in-Err-clause-taken g c = takes_none _ (record { text = refl; given = refl; calls = refl; faults = refl }) refl

pub returns-in-Verify-clause-taken : goal.returns-in-Verify-clause-taken
returns-in-Verify-clause-taken g c = takes_none _ (record { text = refl; given = refl; calls = refl; faults = refl }) refl

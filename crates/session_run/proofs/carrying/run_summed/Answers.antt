-- where a large session is done, or given up: before its phases, in them, or as its summary is written
use Rattle.std.proofs.Common.{Some, ap, refl}
use Rattle.cc_outside.specs.Feeds.{Basin}
use Rattle.session_run.specs.declared.words.Form.TheVariants as forms
use Rattle.session_run.proofs.Running.Carried.{cut_in_memory, left_in_memory, not_begun, whole_in_memory}
use Rattle.session_run.proofs.carrying.run_summed.Goals as goal

pub returns-in_default-clause-err : goal.returns-in_default-clause-err
returns-in_default-clause-err g c = λ seed size.
    not_begun (forms.Big seed size) c.args.phases.items c.args.core.story (g.K.Sink.ghost_state c.args.sink.now).held
    (g.C.Clock.ghost_state c.args.clock.now).modeled (g.C.Clock.ghost_state c.args.clock.now).readings c.requires.opened

pub returns-in_default-run-clause-err : goal.returns-in_default-run-clause-err
returns-in_default-run-clause-err g c = λ seed size.
    left_in_memory seed size c.args.phases.items c.run_phases-core.result.0.story _ c.run_phases-core.result.1 _
    (g.K.Sink.ghost_state c.args.sink.now).held c.in_default-run.is c.run_phases-core.ensures.err

pub returns-clause-err : goal.returns-clause-err
returns-clause-err g c = λ seed size.
    cut_in_memory seed size c.args.phases.items c.run_phases-core.result.0.story _ c.run_phases-core.result.1 c.in-Ok-run.failed
    c.in-Err.cut (g.K.Sink.ghost_state c.args.sink.now).held (g.K.Sink.ghost_state c.write_summary.new.sink).held _
    c.bytes.result.now c.in-Ok-run.is c.run_phases-core.ensures.ok (ap (λ (b : Basin). Some b.held) c.in-Ok.ensures) refl
    c.bytes.ensures c.in-Err.ensures.err

pub returns-in-Ok-write_summary-clause-ok : goal.returns-in-Ok-write_summary-clause-ok
returns-in-Ok-write_summary-clause-ok g c = λ seed size.
    whole_in_memory seed size c.args.phases.items c.run_phases-core.result.0.story _ c.run_phases-core.result.1 c.in-Ok-run.failed
    (g.K.Sink.ghost_state c.args.sink.now).held (g.K.Sink.ghost_state c.write_summary.new.sink).held _ c.bytes.result.now
    c.in-Ok-run.is c.run_phases-core.ensures.ok (ap (λ (b : Basin). Some b.held) c.in-Ok.ensures) refl c.bytes.ensures
    c.in-Ok-write_summary.ensures.ok

-- what each form does is what its words ask for
use Rattle.base_core.proofs.Story.Counts.{keeps_count}
use Rattle.session_run.proofs.Running.Carried.{check_err, check_ok, run_err, run_ok}
use Rattle.session_run.proofs.carrying.carry_out.Goals as goal

pub returns-in-Run-clause-ok : goal.returns-in-Run-clause-ok
returns-in-Run-clause-ok g c =
    rw c.in-Run.is (run_ok c.run_phases.result.1 c.args.phases.items c.run_phases.result.0.story _ c.run_phases.ensures.ok)

pub returns-in-Run-clause-err : goal.returns-in-Run-clause-err
returns-in-Run-clause-err g c =
    rw c.in-Run.is (run_err c.run_phases.result.1 c.args.phases.items c.run_phases.result.0.story _ c.run_phases.ensures.err)

pub returns-in-Big-clause-ok : goal.returns-in-Big-clause-ok
returns-in-Big-clause-ok g c = rw c.in-Big.is (c.run_summed.ensures.ok c.in-Big.seed c.in-Big.size)

pub returns-in-Big-clause-err : goal.returns-in-Big-clause-err
returns-in-Big-clause-err g c = rw c.in-Big.is (c.run_summed.ensures.err c.in-Big.seed c.in-Big.size)

pub returns-in-Verify-clause-ok : goal.returns-in-Verify-clause-ok
returns-in-Verify-clause-ok g c =
    rw c.in-Verify.is (check_ok c.write_check-found.result c.args.core.story c.args.phases.items
    (g.K.Sink.ghost_state c.args.sink.now).held
    (g.K.Sink.ghost_state c.write_check-found.new.sink).held
    (g.C.Clock.ghost_state c.args.clock.now).modeled (g.C.Clock.ghost_state c.args.clock.now).readings c.requires.opened
    (c.requires.none c.in-Verify.is)
    c.write_check-found.ensures.found c.write_check-found.ensures.ok)

pub returns-in-Verify-clause-err : goal.returns-in-Verify-clause-err
returns-in-Verify-clause-err g c =
    rw c.in-Verify.is (check_err c.write_check-found.result c.args.core.story c.args.phases.items
    (g.K.Sink.ghost_state c.args.sink.now).held
    (g.K.Sink.ghost_state c.write_check-found.new.sink).held
    (g.C.Clock.ghost_state c.args.clock.now).modeled (g.C.Clock.ghost_state c.args.clock.now).readings c.requires.opened
    (c.requires.none c.in-Verify.is)
    c.write_check-found.ensures.err)

pub returns-in-Verify-clause-counted : goal.returns-in-Verify-clause-counted
returns-in-Verify-clause-counted g c = keeps_count c.args.core

use Rattle.std.proofs.Common.{ap, arith, length, ◌∙◌}
use Rattle.base_core.proofs.Story.Counts.{keeps_further}
use Rattle.session_run.proofs.Running.PhaseSteps.{phase_begins, runs_by, leaves_by}
use Rattle.session_run.proofs.phases.run_commands.Goals as goal

pub run_on_threads-requires-clause-few : goal.run_on_threads-requires-clause-few
run_on_threads-requires-clause-few g c κs within =
    let begun = phase_begins c.args.core.story c.begin_phase.new.self.story c.args.phase c.args.moment c.in-Ok.ensures.ok in
    omega (arith, ap (λ p. length p.lanes) begun.is_last, c.requires.ready.0)

pub returns-in-Ok-clause-ok : goal.returns-in-Ok-clause-ok
returns-in-Ok-clause-ok g c =
    runs_by c.run_on_threads.result.1 c.args.core.story c.begin_phase.new.self.story c.run_on_threads.result.0.story c.args.phase
    c.args.moment c.in-Ok.ensures.ok
    c.run_on_threads.ensures.since.goes c.run_on_threads.ensures.finished

pub returns-in-Ok-clause-err : goal.returns-in-Ok-clause-err
returns-in-Ok-clause-err g c =
    leaves_by c.run_on_threads.result.1 c.args.core.story c.begin_phase.new.self.story c.run_on_threads.result.0.story
    c.args.phase c.args.moment c.in-Ok.ensures.ok
    c.run_on_threads.ensures.since.goes

pub returns-in-Ok-clause-first : goal.returns-in-Ok-clause-first
returns-in-Ok-clause-first g c =
    let begun = phase_begins c.args.core.story c.begin_phase.new.self.story c.args.phase c.args.moment c.in-Ok.ensures.ok in
    c.run_on_threads.ensures.since.goes.first ∙ begun.first c.requires.opened

pub returns-in-Ok-clause-counted : goal.returns-in-Ok-clause-counted
returns-in-Ok-clause-counted g c =
    keeps_further c.args.core c.begin_phase.new.self c.run_on_threads.result.0 c.begin_phase.ensures.counted
    c.run_on_threads.ensures.since.counted

use Rattle.std.proofs.Common.{ap, ◌∙◌}
use Rattle.cc_names.specs.Counts.{rises}
use Rattle.session_run.specs.Running.Runs.{run_status}
use Rattle.session_run.proofs.Promises.Headline.{runs_opened}
use Rattle.session_run.proofs.run.run_opened.Goals as goal

pub returns-clause-runs : goal.returns-clause-runs
returns-clause-runs g c =
    let core = c.settle.new.core in
    runs_opened c.args.core c.carry_out-core.result.0 core.story core.ghost_state c.settle.ensures.same c.settle.ensures.settles
    c.settle.ensures.calls c.carry_out-core.result.1 c.args.given.form c.args.given.phases.items c.status_of-status.result _ _
    c.args.before _ _ _ c.requires.opened c.carry_out-core.ensures.counted c.into_parts-disk.ensures.history c.into_parts-disk.ensures.disk
    (c.status_of-status.ensures ∙ ap (run_status c.carry_out-core.result.1) (c.has_risen.ensures
    ∙ ap (rises c.args.before) c.counts.ensures.faults))
    c.carry_out-core.ensures.first c.into_parts-disk.ensures.legal c.carry_out-core.ensures.ok c.carry_out-core.ensures.err
    c.carry_out-core.ensures.fault c.into_parts-disk.ensures.stopped c.settle.ensures.mended
    (λ opening k found is may. c.a_stop_opens_again.ensures core.story opening k found c.into_parts-disk.ensures.legal
    c.into_parts-disk.ensures.formed is may)

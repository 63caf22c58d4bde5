use Rattle.std.proofs.Common.{ap, ap₂, ◌∙◌, inl, inr, refl, subst}
use Rattle.cc_names.specs.Counts.{rises}
use Rattle.base_core.specs.Story.Counted.{disk_of}
use Rattle.session_run.specs.Calls.Causes.{Change}
use Rattle.session_run.specs.Running.Outcomes.{RunsOpened}
use Rattle.session_run.specs.Running.Runs.{Outside}
use Rattle.session_run.specs.Running.Unstarted.{WritesUnstarted, of_unopened}
use Rattle.session_run.specs.Story.Begun.{first_step}
use Rattle.session_run.proofs.Promises.Headline.{begins_on, just_opened}
use Rattle.session_run.proofs.run.run_session.Goals as goal

pub run_opened-requires-clause-opened : goal.run_opened-requires-clause-opened
run_opened-requires-clause-opened g c κs within = just_opened _ _ _ c.in-Ok.core.story c.in-Ok.ensures.ok

pub returns-in-Ok-clause-runs : goal.returns-in-Ok-clause-runs
returns-in-Ok-clause-runs g c =
    let core = c.in-Ok.core in
    let ended = c.run_opened.result in
    let outside : Outside = record {
      held = (g.K.Sink.ghost_state c.args.sink.now).held;
      holds = (g.K.Sink.ghost_state c.run_opened.new.sink).held;
      moments =
          (g.C.Clock.ghost_state c.args.clock.now).modeled;
      first = (g.C.Clock.ghost_state c.args.clock.now).readings;
      reading =
          (g.C.Clock.ghost_state c.run_opened.new.clock).readings;
    } in
    let faults : Change _ = record {
      before = (g.K.Sink.ghost_state c.args.sink.now).faults;
      after = (g.K.Sink.ghost_state c.run_opened.new.sink).faults;
    } in
    inl (record {
      begins = begins_on (g.D.Disk.ghost_state c.args.disk) core.ghost_state core.tail core.story ended.history
          (first_step core.story) c.in-Ok.ensures.ok refl c.run_opened.ensures.runs.first_is;
      first = first_step core.story;
      opened = disk_of core;
      tail = c.in-Ok.ensures.ok.tail;
      faultless = c.in-Ok.ensures.ok.faultless;
      fit = c.in-Ok.ensures.ok.fit;
      once = c.in-Ok.ensures.once;
      files = c.in-Ok.ensures.ok.files;
      runs =
          subst (λ n. RunsOpened c.args.given.form c.args.given.phases.items ended.status (first_step core.story) ended.history n
          (disk_of core) (g.D.Disk.ghost_state ended.disk) outside faults)
          c.counts-before.ensures.faults c.run_opened.ensures.runs;
    })

pub returns-in-Err-clause-runs : goal.returns-in-Err-clause-runs
returns-in-Err-clause-runs g c =
    let cause = c.in-Err.field-0.cause in
    let rose = c.has_risen.ensures ∙ ap₂ rises c.counts-before.ensures.faults c.counts.ensures.faults in
    let faults : Change _ = record {
      before = (g.K.Sink.ghost_state c.args.sink.now).faults;
      after = (g.K.Sink.ghost_state c.write_unstarted.new.sink).faults;
    } in
    inr (record {
      because = cause;
      fails = c.in-Err.ensures.err;
      once = c.in-Err.ensures.once;
      empty = c.empty.ensures;
      unread = refl;
      wrote = subst (λ unstarted. WritesUnstarted unstarted c.write_unstarted.result (g.K.Sink.ghost_state c.args.sink.now).held
          (g.K.Sink.ghost_state c.write_unstarted.new.sink).held faults) (c.of_unopened-unstarted.ensures
          ∙ ap (of_unopened cause) rose) c.write_unstarted.ensures.writes;
    })

use Rattle.std.proofs.Common.{List, inl, inr, refl, subst, sym}
use Rattle.cc_names.specs.declared.steps.StoryStep.{StoryStep}
use Rattle.session_run.specs.Calls.Causes.{Change, Intake, IsUntouched, intake_of}
use Rattle.session_run.specs.Promises.Promised.{Promised}
use Rattle.session_run.specs.Running.Runs.{Outside}
use Rattle.session_run.proofs.Calls.Ready.{is_short}
use Rattle.session_run.proofs.Promises.Headline.{asked, promised_run, promised_without, untouched}
use Rattle.session_run.proofs.run.run_form.Goals as goal

pub run_session-requires-clause-synced : goal.run_session-requires-clause-synced
run_session-requires-clause-synced g c κs within = c.requires

pub run_session-requires-clause-runnable : goal.run_session-requires-clause-runnable
run_session-requires-clause-runnable g c κs within = c.in-Ok.ensures.gives.runnable

pub run_session-requires-clause-none : goal.run_session-requires-clause-none
run_session-requires-clause-none g c κs within = c.in-Ok.ensures.gives.none

pub run_session-requires-clause-base : goal.run_session-requires-clause-base
run_session-requires-clause-base g c κs within = c.in-Ok.ensures.gives.base

pub write_without_base-requires : goal.write_without_base-requires
write_without_base-requires g c = is_short c.in-Err.without _ c.in-Err.ensures.why

pub returns-in-Ok : goal.returns-in-Ok
returns-in-Ok g c = record {
  promised =
      promised_run c.in-Ok.given.form c.in-Ok.given.phases.items c.run_session.result.status c.run_session.result.history _ _ _ _
      (c.a_disk_is_counted.ensures c.args.disk) (c.a_disk_is_counted.ensures c.run_session.result.disk) c.in-Ok.ensures.gives
      c.run_session.ensures.runs;
  rests = c.run_session.ensures.rests;
  untouched = record { unless_asked = inl (asked _ c.in-Ok.given.form c.in-Ok.given.phases.items c.in-Ok.ensures.gives) };
  taken = c.session_given.ensures.taken;
}

pub returns-in-Err : goal.returns-in-Err
returns-in-Err g c =
    let intake : Intake = intake_of c.args.words.now (g.S.Source.ghost_state c.args.source.now)
    (g.S.Source.ghost_state c.session_given.new.source) in
    let outside : Outside = record {
      held = (g.K.Sink.ghost_state c.args.sink.now).held;
      holds = (g.K.Sink.ghost_state c.write_without_base.new.sink).held;
      moments =
          (g.C.Clock.ghost_state c.args.clock.now).modeled;
      first = (g.C.Clock.ghost_state c.args.clock.now).readings;
      reading =
          (g.C.Clock.ghost_state c.args.clock.now).readings;
    } in
    let faults : Change _ = record {
      before = (g.K.Sink.ghost_state c.args.sink.now).faults;
      after = (g.K.Sink.ghost_state c.write_without_base.new.sink).faults;
    } in
    let disk = g.D.Disk.ghost_state c.args.disk in
    record {
      promised =
          subst (λ story. Promised c.write_without_base.result story intake outside faults
          (record { before = disk; after = disk })) (sym c.empty.ensures)
          (promised_without c.in-Err.without c.write_without_base.result intake outside faults disk refl
          (c.a_disk_is_counted.ensures c.args.disk) c.requires c.in-Err.ensures.why c.write_without_base.ensures.writes);
      rests = c.write_without_base.ensures.rests;
      untouched =
          record {
            unless_asked = inr (subst (λ (story : List StoryStep). IsUntouched (record { before = disk; after = disk })
                story) (sym c.empty.ensures) (untouched disk));
          };
      taken = c.session_given.ensures.taken;
    }

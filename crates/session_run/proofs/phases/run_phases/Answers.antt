use Rattle.std.proofs.Common.{◌≡◌, ◌+◌, ◌≤◌, ℕ, List, Option, refl, ap, subst, sym, ◌∙◌, arith, length, append_assoc}
use Rattle.std.proofs.Common.{length-append, ◌∷◌, []}
use Rattle.std.specs.Prelude.{IfSome, min, Result, Ok, Err, OnOk, OnErr}
use Rattle.std.specs.List.{AllByRecursion}
use Rattle.std.specs.Vec.Iter.{into_iter_items}
use Rattle.cc_outside.specs.Moments.{moment_at}
use Rattle.legal_history.specs.Stories.Lawful.{last_moment}
use Rattle.base_core.proofs.Story.Counts.{keeps_count, keeps_further}
use Rattle.session_run.specs.Calls.Asked.{text_limit}
use Rattle.session_run.specs.Running.Phases.{LeavesPhase, RunsPhase}
use Rattle.session_run.specs.Running.Runs.{CountsCut, IsReadyPhase, Outside}
use Rattle.session_run.proofs.Calls.Resting.{went_on, rests_after}
use Rattle.session_run.proofs.Running.Runs.{run_goes_on, run_leaves, run_is_cut, run_starts, in_hand}
use Rattle.session_run.proofs.phases.run_phases.Goals as goal

-- what a clock tells that still tells the same
modeled_still : (now first : Option (List ℕ)) (moment reading : ℕ) → now ≡ first
    → IfSome now (λ modeled. moment ≡ min (moment_at modeled reading) last_moment)
    → IfSome first (λ modeled. moment ≡ min (moment_at modeled reading) last_moment)
modeled_still now first moment reading e h = subst (λ clock. IfSome clock
    (λ modeled. moment ≡ min (moment_at modeled reading) last_moment)) e h

-- what is promised where a call succeeds, and where it fails
on_ok : {A E : Type 0} (result : Result A E) (a : A) (P : Type 0) → result ≡ Ok a → OnOk result P → P
on_ok result a P is h = subst (λ r. OnOk r P) is h

on_err : {A E : Type 0} (result : Result A E) (e : E) (P : Type 0) → result ≡ Err e → OnErr result P → P
on_err result e P is h = subst (λ r. OnErr r P) is h

pub loop-phase-init : goal.loop-phase-init
loop-phase-init g c =
    let items = sym c.into_iter-phase-iterator.ensures.into_iter_gives.0 in
    record {
      run = run_starts c.args.core.story (g.K.Sink.ghost_state c.args.sink.now).held
          (g.C.Clock.ghost_state c.args.clock.now).modeled (g.C.Clock.ghost_state c.args.clock.now).readings c.requires.opened;
      first = refl;
      rest = refl;
      ready = subst (AllByRecursion IsReadyPhase) items c.requires.runnable.ready;
      few = subst (λ phases. length phases ≤ text_limit) items c.requires.runnable.few;
      number = refl;
      faults = refl;
      ended = refl;
      counted = keeps_count c.args.core;
      clock = refl;
    }

pub returns-in-Err-clause-err : goal.returns-in-Err-clause-err
returns-in-Err-clause-err g c =
    let at = c.loop-phase in
    let outside : Outside = record {
      held = (g.K.Sink.ghost_state c.args.sink.now).held;
      holds = (g.K.Sink.ghost_state at.sink).held;
      moments = (g.C.Clock.ghost_state c.args.clock.now).modeled;
      first =
          (g.C.Clock.ghost_state c.args.clock.now).readings;
      reading = (g.C.Clock.ghost_state at.clock).readings;
    } in
    run_leaves at.yielded c.in-Some.phase at.core.story c.run_commands-next.result.0.story outside c.moment_of-moment.result
    (g.C.Clock.ghost_state c.moment_of-moment.new.clock).readings at.failed at.invariant.run
    (modeled_still (g.C.Clock.ghost_state at.clock).modeled (g.C.Clock.ghost_state c.args.clock.now).modeled
    c.moment_of-moment.result (g.C.Clock.ghost_state at.clock).readings at.invariant.clock c.moment_of-moment.ensures.moment)
    c.moment_of-moment.ensures.counted (into_iter_items c.next.new.self) c.args.phases.items
    (on_err c.run_commands-next.result.1 _ (LeavesPhase c.in-Some.phase c.moment_of-moment.result at.core.story
    c.run_commands-next.result.0.story) c.in-Err.is c.run_commands-next.ensures.err)
    (in_hand at.yielded (into_iter_items at.phase-iterator) (into_iter_items c.next.new.self) _ c.args.phases.items
    c.in-Some.phase at.invariant.rest c.in-Some.ensures.steps.0 c.into_iter-phase-iterator.ensures.into_iter_gives.0)

pub loop-phase-preserved : goal.loop-phase-preserved
loop-phase-preserved g c =
    let at = c.loop-phase in
    let outside : Outside = record {
      held = (g.K.Sink.ghost_state c.args.sink.now).held;
      holds = (g.K.Sink.ghost_state at.sink).held;
      moments = (g.C.Clock.ghost_state c.args.clock.now).modeled;
      first =
          (g.C.Clock.ghost_state c.args.clock.now).readings;
      reading = (g.C.Clock.ghost_state at.clock).readings;
    } in
    let ready : AllByRecursion IsReadyPhase (c.in-Some.phase ∷ into_iter_items c.next.new.self) =
    subst (AllByRecursion IsReadyPhase) c.in-Some.ensures.steps.0 at.invariant.ready in
    record {
      run =
          run_goes_on at.yielded c.in-Some.phase at.core.story c.run_commands-next.result.0.story outside
          c.moment_of-moment.result (g.C.Clock.ghost_state c.moment_of-moment.new.clock).readings at.failed at.invariant.run
          (modeled_still (g.C.Clock.ghost_state at.clock).modeled (g.C.Clock.ghost_state c.args.clock.now).modeled
          c.moment_of-moment.result (g.C.Clock.ghost_state at.clock).readings at.invariant.clock
          c.moment_of-moment.ensures.moment)
          c.moment_of-moment.ensures.counted (g.K.Sink.ghost_state c.write_transcript.new.sink).held (at.number + 1)
          c.any_failed-failed.result
          (on_ok c.run_commands-next.result.1 _ (RunsPhase c.in-Some.phase c.moment_of-moment.result at.core.story
          c.run_commands-next.result.0.story) c.in_default.is c.run_commands-next.ensures.ok)
          c.any_failed-failed.ensures (ap (λ n. n + 1) at.invariant.number) c.in_default-write_transcript.ensures.ok;
      first = c.run_commands-next.ensures.first ∙ at.invariant.first;
      rest = append_assoc at.yielded (c.in-Some.phase ∷ []) (into_iter_items c.next.new.self)
          ∙ in_hand at.yielded (into_iter_items at.phase-iterator) (into_iter_items c.next.new.self) _ _ c.in-Some.phase
          at.invariant.rest c.in-Some.ensures.steps.0 refl;
      ready = ready.1;
      few = at.invariant.few;
      number = omega (arith, at.invariant.number, length-append at.yielded (c.in-Some.phase ∷ []));
      faults = c.in_default-write_transcript.ensures.fault ∙ at.invariant.faults;
      ended = c.in_default-write_transcript.ensures.goes_on ∙ at.invariant.ended;
      counted = keeps_further c.args.core at.core c.run_commands-next.result.0 at.invariant.counted
          c.run_commands-next.ensures.counted;
      clock = c.moment_of-moment.ensures.list ∙ at.invariant.clock;
    }

pub returns-in-Err-write_transcript-clause-err : goal.returns-in-Err-write_transcript-clause-err
returns-in-Err-write_transcript-clause-err g c =
    let at = c.loop-phase in
    let outside : Outside = record {
      held = (g.K.Sink.ghost_state c.args.sink.now).held;
      holds = (g.K.Sink.ghost_state at.sink).held;
      moments = (g.C.Clock.ghost_state c.args.clock.now).modeled;
      first =
          (g.C.Clock.ghost_state c.args.clock.now).readings;
      reading = (g.C.Clock.ghost_state at.clock).readings;
    } in
    run_is_cut at.yielded c.in-Some.phase at.core.story c.run_commands-next.result.0.story outside c.moment_of-moment.result
    (g.C.Clock.ghost_state c.moment_of-moment.new.clock).readings at.failed at.invariant.run
    (modeled_still (g.C.Clock.ghost_state at.clock).modeled (g.C.Clock.ghost_state c.args.clock.now).modeled
    c.moment_of-moment.result (g.C.Clock.ghost_state at.clock).readings at.invariant.clock c.moment_of-moment.ensures.moment)
    c.moment_of-moment.ensures.counted c.in-Err-write_transcript.error (into_iter_items c.next.new.self) c.args.phases.items
    (g.K.Sink.ghost_state c.write_transcript.new.sink).held (at.number + 1)
    (on_ok c.run_commands-next.result.1 _ (RunsPhase c.in-Some.phase c.moment_of-moment.result at.core.story
    c.run_commands-next.result.0.story) c.in_default.is c.run_commands-next.ensures.ok)
    (ap (λ n. n + 1) at.invariant.number)
    (in_hand at.yielded (into_iter_items at.phase-iterator) (into_iter_items c.next.new.self) _ c.args.phases.items
    c.in-Some.phase at.invariant.rest c.in-Some.ensures.steps.0 c.into_iter-phase-iterator.ensures.into_iter_gives.0)
    c.in-Err-write_transcript.ensures.err

pub returns-in-Err-write_transcript-clause-fault : goal.returns-in-Err-write_transcript-clause-fault
returns-in-Err-write_transcript-clause-fault g c =
    subst (λ before. CountsCut c.in-Err-write_transcript.error before (g.K.Sink.ghost_state c.write_transcript.new.sink).faults)
    c.loop-phase.invariant.faults c.in-Err-write_transcript.ensures.fault

pub returns-in-Err-clause-counted : goal.returns-in-Err-clause-counted
returns-in-Err-clause-counted g c =
    keeps_further c.args.core c.loop-phase.core c.run_commands-next.result.0 c.loop-phase.invariant.counted
    c.run_commands-next.ensures.counted

pub returns-in-Err-write_transcript-clause-counted : goal.returns-in-Err-write_transcript-clause-counted
returns-in-Err-write_transcript-clause-counted g c =
    keeps_further c.args.core c.loop-phase.core c.run_commands-next.result.0 c.loop-phase.invariant.counted
    c.run_commands-next.ensures.counted

pub returns-clause-rests : goal.returns-clause-rests
returns-clause-rests g c = went_on _ _ _ c.loop-phase.invariant.ended

pub returns-in-Err-clause-rests : goal.returns-in-Err-clause-rests
returns-in-Err-clause-rests g c = went_on _ _ _ c.loop-phase.invariant.ended

pub returns-in-Err-write_transcript-clause-rests : goal.returns-in-Err-write_transcript-clause-rests
returns-in-Err-write_transcript-clause-rests g c =
    rests_after _ _ _ _ c.loop-phase.invariant.ended c.write_transcript.ensures.rests

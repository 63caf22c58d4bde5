use Rattle.std.proofs.Common.{◌≡◌, ◌≤◌, ◌++◌, length}
use Rattle.std.specs.List.{AllByRecursion}
use Rattle.std.specs.Vec.Iter.{into_iter_items}
use Rattle.base_core.specs.Story.Counted.{KeepsCount}
use Rattle.session_run.specs.Calls.Asked.{text_limit}
use Rattle.session_run.specs.Running.Runs.{HasRunPhases, IsReadyPhase}
use Rattle.session_run.specs.Story.Begun.{first_step}
use Rattle.session_run.proofs.phases.run_phases.Given as goal

abbrev pub invariant-loop-phase : goal.invariant-loop-phase
invariant-loop-phase g l = record {
  run : HasRunPhases l.yielded l.core.story (record {
    held = (g.K.Sink.ghost_state l.initial.sink).held;
    holds = (g.K.Sink.ghost_state l.sink).held;
    moments = (g.C.Clock.ghost_state l.initial.clock).modeled;
    first =
        (g.C.Clock.ghost_state l.initial.clock).readings;
    reading = (g.C.Clock.ghost_state l.clock).readings;
  }) l.failed;
  first : first_step l.core.story ≡ first_step l.fn.core.story;
  rest : l.yielded ++ into_iter_items l.phase-iterator ≡ into_iter_items l.initial.phase-iterator;
  ready : AllByRecursion IsReadyPhase (into_iter_items l.phase-iterator);
  few : length (into_iter_items l.initial.phase-iterator) ≤ text_limit;
  number : l.number ≡ length l.yielded;
  faults : (g.K.Sink.ghost_state l.sink).faults ≡ (g.K.Sink.ghost_state l.initial.sink).faults;
  ended : (g.K.Sink.ghost_state l.sink).ended ≡ (g.K.Sink.ghost_state l.initial.sink).ended;
  counted : KeepsCount l.fn.core l.core;
  clock : (g.C.Clock.ghost_state l.clock).modeled ≡ (g.C.Clock.ghost_state l.initial.clock).modeled;
}

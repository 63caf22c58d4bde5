use Rattle.std.proofs.Common.{◌≡◌, ◌≤◌, ◌-◌, length, take}
use Rattle.std.specs.Io.KnownBytes.{Appends}
use Rattle.cc_outside.proofs.sinks.write_whole.Given as goal

abbrev pub invariant-loop-done : goal.invariant-loop-done
invariant-loop-done g l = record {
  within : l.done ≤ length l.text;
  written : Appends (g.K.Sink.ghost_state l.initial.sink).held (g.K.Sink.ghost_state l.sink).held (take l.done l.text);
  kept : (g.K.Sink.ghost_state l.initial.sink).faults ≤ (g.K.Sink.ghost_state l.sink).faults;
  goes_on : (g.K.Sink.ghost_state l.sink).ended ≡ (g.K.Sink.ghost_state l.initial.sink).ended;
  faultless : (g.K.Sink.ghost_state l.sink).faults ≡ (g.K.Sink.ghost_state l.initial.sink).faults;
}

abbrev pub decreases-loop-done : goal.decreases-loop-done
decreases-loop-done g l = length l.text - l.done

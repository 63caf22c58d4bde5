use Rattle.std.proofs.Common.{◌≡◌, ◌+◌, ◌≤◌, length}
use Rattle.vob_replica.specs.Reading.{before_others, events_below, events_of}
use Rattle.vob_replica.proofs.events.Event.read.Given as goal

abbrev pub invariant-lines : goal.invariant-lines
invariant-lines l = record {
  same : before_others l.events.items (events_below l.number l.lines) ≡ events_of l.text;
  within : l.number + length l.lines ≤ length l.text;
}

abbrev pub decreases-lines : goal.decreases-lines
decreases-lines l = length l.lines

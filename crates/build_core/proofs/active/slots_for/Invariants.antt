use Rattle.std.proofs.Common.{◌≡◌, [], length}
use Rattle.build_core.specs.Comes.{comes_of}
use Rattle.build_core.proofs.active.slots_for.Given as goal

abbrev pub invariant-loop-unit : goal.invariant-loop-unit
invariant-loop-unit l = record { length : length l.slots.items ≡ l.unit-index; empty : comes_of l.slots.items ≡ [] }

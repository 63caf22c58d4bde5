use Rattle.std.proofs.Common.{◌≡◌}
use Rattle.turn_lock.proofs.lock.wait_for.Given as goal

-- nothing has changed since the loop began
abbrev pub invariant-loop : goal.invariant-loop
invariant-loop g l = (l.seat.table_id ≡ l.initial.seat.table_id) × (l.seat.me ≡ l.initial.seat.me)

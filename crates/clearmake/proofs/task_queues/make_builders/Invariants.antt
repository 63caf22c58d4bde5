use Rattle.std.proofs.Common.{◌≡◌}
use Rattle.clearmake.proofs.task_queues.make_builders.Given as goal

abbrev pub invariant-loop-number : goal.invariant-loop-number
invariant-loop-number l = l.made.len ≡ l.number

use Rattle.std.proofs.Common.{◌≡◌, ◌++◌, drop}
use Rattle.vob_replica.specs.Replicas.{above}
use Rattle.vob_replica.proofs.logs.not_held.Given as goal

abbrev pub invariant-loop-operation : goal.invariant-loop-operation
invariant-loop-operation l = l.shared.items ++ above l.table (drop l.operation-index l.operations) ≡ above l.table l.operations

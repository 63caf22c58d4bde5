use Rattle.std.proofs.Common.{◌≡◌, drop}
use Rattle.std.specs.Prelude.{find}
use Rattle.vob_replica.specs.Trees.{needs_all_others}
use Rattle.vob_replica.proofs.masters.last_out_of_turn.Given as goal

abbrev pub invariant-loop-operation : goal.invariant-loop-operation
invariant-loop-operation l =
    find (needs_all_others l.operations) (drop l.operation-index l.operations) ≡ find (needs_all_others l.operations) l.operations

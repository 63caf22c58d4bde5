use Rattle.std.proofs.Common.{◌≡◌, drop}
use Rattle.vob_replica.specs.Trees.{needs_all_others}
use Rattle.vob_replica.proofs.masters.needs_all_others.Given as goal

abbrev pub invariant-loop-other : goal.invariant-loop-other
invariant-loop-other l = needs_all_others (drop l.other-index l.operations) l.operation
    ≡ needs_all_others l.operations l.operation

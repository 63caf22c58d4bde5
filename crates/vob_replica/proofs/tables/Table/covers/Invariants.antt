use Rattle.std.proofs.Common.{◌≡◌, drop}
use Rattle.vob_replica.specs.Tables.{first_gap}
use Rattle.vob_replica.proofs.tables.Table.covers.Given as goal

abbrev pub invariant-loop-other : goal.invariant-loop-other
invariant-loop-other l = first_gap (drop l.other-index l.others) l.self ≡ first_gap l.others l.self

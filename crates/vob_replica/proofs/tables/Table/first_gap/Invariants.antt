use Rattle.std.proofs.Common.{◌≡◌, drop}
use Rattle.vob_replica.specs.Tables.{first_gap}
use Rattle.vob_replica.proofs.tables.Table.first_gap.Given as goal

abbrev pub invariant-loop-need : goal.invariant-loop-need
invariant-loop-need l = first_gap (drop l.need-index l.needs) l.self ≡ first_gap l.needs l.self

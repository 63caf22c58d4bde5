use Rattle.std.proofs.Common.{◌≡◌, drop}
use Rattle.vob_replica.specs.Tables.{first_gap}
use Rattle.vob_replica.proofs.needs.Needs.covers_all.Given as goal

abbrev pub invariant-loop-entry : goal.invariant-loop-entry
invariant-loop-entry l = first_gap (drop l.entry-index l.entries) l.self ≡ first_gap l.entries l.self

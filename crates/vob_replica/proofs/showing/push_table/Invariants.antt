use Rattle.std.proofs.Common.{◌≡◌, ◌++◌, drop}
use Rattle.std.specs.Prelude.{flat_map}
use Rattle.vob_replica.specs.Showing.{epoch_line}
use Rattle.vob_replica.proofs.showing.push_table.Given as goal

abbrev pub invariant-loop-entry : goal.invariant-loop-entry
invariant-loop-entry l = l.text.items ++ flat_map epoch_line (drop l.entry-index l.table) ≡ l.initial.text.items
    ++ flat_map epoch_line l.table

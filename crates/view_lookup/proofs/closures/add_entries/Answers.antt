-- One entry after the other is added.
use Rattle.std.proofs.Common.{◌+◌, drop}
use Rattle.std.specs.Option.{option_copied}
use Rattle.base_rows.specs.ObjectWalks.{above}
use Rattle.view_lookup.specs.LeastInputs.{least_of_all, least_of_entries, lesser}
use Rattle.base_rows.proofs.RecordEntries.{entries_above}
use Rattle.view_lookup.proofs.LeastInputs.{entries_left, entry_taken}
use Rattle.view_lookup.proofs.closures.add_entries.Goals as goal

pub loop-entry-preserved : goal.loop-entry-preserved
loop-entry-preserved g c =
    let b = c.args.rows.now in
    let passes = g.T.InputTest.passes c.args.test.now in
    let entries = c.args.entries.now in
    let i = c.loop-entry.entry-index in
    let entry = c.entry-item.result in
    let old = lesser (option_copied c.loop-entry.found) (least_of_all b passes c.loop-entry.left.keys) in
    let new = lesser (option_copied c.in_ok-found.found) (least_of_all b passes c.add_entry.new.left.keys) in
    let all = lesser (least_of_entries b passes entries) (lesser (option_copied c.args.least)
    (least_of_all b passes c.args.left.now.keys)) in
    record {
      least = entry_taken b passes entry (drop (i + 1) entries) old new all c.in_ok-found.ensures.least
          (entries_left b passes entries i entry old all c.loop-entry-test.true c.entry-item.is c.loop-entry.invariant.least);
      above = entries_above entries i entry (above c.loop-entry.left.keys) (above c.add_entry.new.left.keys) _
          c.loop-entry-test.true c.entry-item.is c.in_ok-found.ensures.above c.loop-entry.invariant.above;
    }

use Rattle.std.proofs.Common.{◌≡◌, ◌≤◌, ◌+◌, ◌*◌, drop}
use Rattle.base_rows.specs.Listings.{greater, greatest_of_entries}
use Rattle.base_rows.specs.ObjectWalks.{above_entries}
use Rattle.base_rows.proofs.listings.+records.Given as goal

abbrev pub decreases-version_in_entry : goal.decreases-version_in_entry
decreases-version_in_entry l = 2 * l.entry.now.row + 1

abbrev pub decreases-version_in_record : goal.decreases-version_in_record
decreases-version_in_record l = 2 * l.object

-- the greatest so far, with that of the entries that are left, is that of all; and these name rows below the object
abbrev pub invariant-version_in_record-loop-entry : goal.invariant-version_in_record-loop-entry
invariant-version_in_record-loop-entry l = record {
  greatest : greater (greatest_of_entries l.rows l.element (drop l.entry-index l.record)) l.greatest
      ≡ greatest_of_entries l.rows l.element l.record;
  low : above_entries (drop l.entry-index l.record) ≤ l.object;
}

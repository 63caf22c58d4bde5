use Rattle.std.proofs.Common.{◌≡◌, ◌≤◌, ℕ, max, drop}
use Rattle.std.specs.BTreeMap.{get}
use Rattle.std.specs.Ordering.{nat_cmp}
use Rattle.base_rows.specs.Listings.{greater, greatest_of_all, greatest_of_entries}
use Rattle.base_rows.specs.ObjectWalks.{above, above_entries}
use Rattle.base_rows.proofs.listings.put_entries.Given as goal

-- what was taken in, with the entries that are left, is what all of them give
abbrev pub invariant-loop-entry : goal.invariant-loop-entry
invariant-loop-entry l = record {
  versions : (e : ℕ) → greater (greatest_of_entries l.rows e (drop l.entry-index l.entries))
      (greater (get nat_cmp l.versions e) (greatest_of_all l.rows e l.left.keys))
      ≡ greater (greatest_of_entries l.rows e l.entries)
      (greater (get nat_cmp l.initial.versions e) (greatest_of_all l.rows e l.initial.left.keys));
  above : max (above_entries (drop l.entry-index l.entries)) (above l.left.keys)
      ≤ max (above_entries l.entries) (above l.initial.left.keys);
}

use Rattle.std.proofs.Common.{◌≡◌, ℕ}
use Rattle.std.specs.BTreeMap.{get}
use Rattle.std.specs.Ordering.{nat_cmp}
use Rattle.base_rows.specs.Listings.{greater, greatest_of_all, greatest_of_entries}
use Rattle.base_rows.specs.ObjectWalks.{above}
use Rattle.base_rows.proofs.listings.listing_of.Given as goal

-- the versions so far, with those of the objects that are left, are the record's
abbrev pub invariant-loop-versions : goal.invariant-loop-versions
invariant-loop-versions l = (e : ℕ) → greater (get nat_cmp l.versions e) (greatest_of_all l.rows e l.left.keys)
    ≡ greatest_of_entries l.rows e l.entries

abbrev pub decreases-loop-versions : goal.decreases-loop-versions
decreases-loop-versions l = above l.left.keys

use Rattle.std.proofs.Common.{◌≤◌, length, nat_eq, vec_len}
use Rattle.std.specs.HashMap.{get, spare}
use Rattle.std.specs.List.{AllByRecursion}
use Rattle.base_model.specs.Rows.{Base}
use Rattle.base_rows.specs.Listings.{AreListings, IsMade}
use Rattle.base_rows.proofs.listings.keep_listings.Given as goal

abbrev pub invariant-loop-one : goal.invariant-loop-one
invariant-loop-one l = record {
  room : length l.made.items ≤ spare l.listings;
  kept : (b : Base) → AreListings (get nat_eq l.initial.listings) b → AllByRecursion (IsMade b) l.initial.made.items
      → AreListings (get nat_eq l.listings) b × AllByRecursion (IsMade b) l.made.items;
}

abbrev pub decreases-loop-one : goal.decreases-loop-one
decreases-loop-one l = vec_len l.made

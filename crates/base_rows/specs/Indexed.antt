-- A base as it is kept: how contracts see it, and what holds of its rows, of their marks, of the trees of versions, of labels, of
-- config specs, of what the records of objects list and of the places of their targets.
use Rattle.std.specs.Prelude.{◌≡◌, ◌-◌, true, nat_eq, min, reverse, vec_len, vec_capacity}
use Rattle.std.specs.HashMap.{get, spare}
use Rattle.base_model.specs.Changes.{labels, tree}
use Rattle.base_model.specs.Fits.{is_base}
use Rattle.base_rows.specs.Labelling.{AreLabels}
use Rattle.base_rows.specs.Listings.{AreListings}
use Rattle.base_rows.specs.Marked.{IsMarked}
use Rattle.base_rows.specs.SeenFiles.{AreSeenByViews}
use Rattle.base_rows.specs.SetSpecs.{specs_set}
use Rattle.base_rows.specs.Shown.{Shown}
use Rattle.base_rows.specs.TargetOrders.{AreOrders}
use Rattle.base_rows.specs.declared.bases.Rows.TheInside.{Inside}

-- what contracts see of a base: its rows, the newest first, and for how many more there is room
abbrev pub shown_of : Inside → Shown
shown_of inside = record {
  base = reverse inside.rows.items;
  room = min (vec_capacity inside.rows - vec_len inside.rows) (min (vec_capacity inside.links - vec_len inside.links)
      (spare inside.newest));
  trees = inside.tree;
  labels = inside.labels;
  spec_room = vec_capacity inside.specs - vec_len inside.specs;
  listing_room = spare inside.listings;
  order_room = spare inside.orders;
  hashing = inside.hashing;
}

-- The rows are a base, the links with the newest row of each key are its marks, the changes of the
-- trees and of the labels are those of its rows, and so are the config specs, and what is kept of what the records of its objects
-- list and of the places of their targets. The files that are kept of views are those that they see.
pub record IsIndexed (inside : Inside) : Type 0 where
  pub fitting : is_base (reverse inside.rows.items) ≡ true
  pub marks : IsMarked inside.hashing inside.links.items (get nat_eq inside.newest) (reverse inside.rows.items)
  pub trees : inside.tree.changes ≡ tree (reverse inside.rows.items)
  pub labelled : AreLabels inside.labels.changes (labels (reverse inside.rows.items))
  pub specs : reverse inside.specs.items ≡ specs_set (reverse inside.rows.items)
  pub listed : AreListings (get nat_eq inside.listings) (reverse inside.rows.items)
  pub ordered : AreOrders (get nat_eq inside.orders) (reverse inside.rows.items)
  pub seen : AreSeenByViews (reverse inside.rows.items) inside.seen

-- What contracts see of a base that is kept: the base, its newest row first, and the room for one more row.
use Rattle.std.specs.Prelude.{ℕ, ◌≤◌, length}
use Rattle.std.specs.declared.random_state.RandomState.{RandomState}
use Rattle.cc_names.specs.declared.rows.Deed.{Deed}
use Rattle.base_model.specs.Rows.{Base}
use Rattle.label_book.specs.Marks.{Marks}
use Rattle.version_tree.specs.Forest.{Forest}
use Rattle.base_rows.specs.Growing.{HasPlace}
use Rattle.base_rows.specs.Labelling.{HasLabelRoom}
use Rattle.base_rows.specs.Preparing.{IsPrepared}
use Rattle.base_rows.specs.declared.prepared.Prepared.{Prepared}

-- A base, and for how many more marks there is room; the trees of its versions and its labels with their room; for how many more
-- config specs and objects there is room, and for the targets of how many; and by which hashing names are found.
pub record Shown : Type 0 where
  pub base : Base
  pub room : ℕ
  pub trees : Forest
  pub labels : Marks
  pub spec_room : ℕ
  pub listing_room : ℕ
  pub order_room : ℕ
  pub hashing : RandomState

-- This is at hand for one more row of this deed, and there is room for it.
pub record HasRoom (shown : Shown) (deed : Deed) (prepared : Prepared) : Type 0 where
  pub ready : IsPrepared prepared shown.hashing shown.base deed
  pub row : 1 ≤ shown.room
  pub marks : length prepared.keys.items ≤ shown.room
  pub place : HasPlace shown.trees prepared.growth
  pub labels : HasLabelRoom shown.labels deed
  pub spec_room : 1 ≤ shown.spec_room
  pub listing_room : length prepared.listings.items ≤ shown.listing_room
  pub order_room : 1 ≤ shown.order_room

-- What is at hand for the next row before it is added.
use Rattle.std.specs.Prelude.{◌≡◌, ℕ}
use Rattle.std.specs.List.{AllByRecursion}
use Rattle.std.specs.declared.random_state.RandomState.{RandomState}
use Rattle.cc_names.specs.declared.rows.Deed.{Deed}
use Rattle.base_model.specs.Changes.{tree}
use Rattle.base_model.specs.Rows.{Base, size}
use Rattle.base_rows.specs.Growing.{IsRooted, change_of, tree_change}
use Rattle.base_rows.specs.Listings.{IsMadeWith}
use Rattle.base_rows.specs.SetSpecs.{rules_set_if_short}
use Rattle.base_rows.specs.Subjects.{keys_of}
use Rattle.base_rows.specs.TargetOrders.{AreOfDeed}
use Rattle.base_rows.specs.declared.prepared.Prepared.{Prepared}

-- This is at hand for a row of this deed after a base in which names are found by this hashing: the keys for which it is
-- marked, what it adds to the trees, the rules that it gives to its view, what is to be kept of what objects list, and where the
-- targets of its object stand.
pub record IsPrepared (prepared : Prepared) (hashing : RandomState) (b : Base) (deed : Deed) : Type 0 where
  pub keys : prepared.keys.items ≡ keys_of hashing b deed
  pub change : (moment : ℕ) → change_of (size b) moment prepared.growth ≡ tree_change b moment deed
  pub rooted : IsRooted (tree b) prepared.growth
  pub rules : prepared.rules ≡ rules_set_if_short deed
  pub listings : AllByRecursion (IsMadeWith b deed) prepared.listings.items
  pub places : AreOfDeed prepared.places deed

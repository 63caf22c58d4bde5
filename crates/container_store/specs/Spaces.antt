-- What contracts see of a store.
use Rattle.std.specs.Prelude.{◌≡◌, ℕ, ◌+◌, List, ◌∷◌}
use Rattle.std.specs.List.Sorted.{IsPermutation}
use Rattle.cc_names.specs.declared.rows.Extent.{Extent}

-- the extents that are taken, and for how many more there is memory
pub record Space : Type 0 where
  pub taken : List Extent
  pub room : ℕ

-- one more extent is taken, which uses the memory of one
pub record TakesExtent (e : Extent) (less more : Space) : Type 0 where
  pub taken : IsPermutation (e ∷ less.taken) more.taken
  pub room : more.room + 1 ≡ less.room

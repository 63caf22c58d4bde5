-- The fields of a `Store`: what contracts see of them, and what they keep.
use Rattle.std.specs.Prelude.{◌-◌, vec_len, vec_capacity}
use Rattle.container_store.specs.Places.{IsKept}
use Rattle.container_store.specs.Spaces.{Space}
use Rattle.container_store.specs.declared.store.Store.TheInside.{Inside}

-- what contracts see
abbrev pub space_of : Inside → Space
space_of inside = record { taken = inside.taken.items; room = vec_capacity inside.taken - vec_len inside.taken }

-- the extents are in order, and no hole is longer than the length that is kept
abbrev pub IsKeptInside : Inside → Type 0
IsKeptInside inside = IsKept inside.taken.items inside.longest

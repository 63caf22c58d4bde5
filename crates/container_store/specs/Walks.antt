-- Where a walk over the holes ends.
use Rattle.std.specs.Prelude.{ℕ, ◌<◌, List, length, take}
use Rattle.cc_names.specs.declared.rows.Extent.{Extent}
use Rattle.container_store.specs.Extents.{extent_at}
use Rattle.container_store.specs.Places.{HasNoLonger, FitsAt, last_behind}
use Rattle.container_store.specs.declared.places.Walk.{Walk}
use Rattle.container_store.specs.declared.places.Walk.TheVariants.{Found, Missed}

-- all holes before the first so many extents are shorter than this
pub record HasShorter (taken : List Extent) (at length : ℕ) : Type 0 where
  pub longest : ℕ
  pub holes : HasNoLonger longest 0 (take at taken)
  pub shorter : longest < length

-- the first place where so many bytes are free, before this extent or after the last
abbrev pub IsFirstAt : List Extent → ℕ → ℕ → Type 0
IsFirstAt taken length at = HasShorter taken at length × FitsAt taken at (extent_at (last_behind 0 (take at taken)) length)

-- the first hole that is long enough, or that no hole is
abbrev pub IsEndOfWalk : List Extent → ℕ → Walk → Type 0
IsEndOfWalk taken length (Found at) = IsFirstAt taken length at
IsEndOfWalk taken length (Missed longest) = HasNoLonger longest 0 taken × (longest < length)

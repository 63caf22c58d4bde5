-- Extents in order of their places, and the holes before them.
use Rattle.std.specs.Prelude.{ℕ, ◌+◌, ◌-◌, ◌^◌, ◌<◌, ◌≤◌, List, [], ◌∷◌, length, take, drop}
use Rattle.cc_names.specs.declared.rows.Extent.{Extent}
use Rattle.container_store.specs.Extents.{place_behind, end_of}

-- each extent has a byte, and begins after the one before it
abbrev pub IsInPlace : ℕ → List Extent → Type 0
IsInPlace from [] = Unit {0}
IsInPlace from (e ∷ more) = (from ≤ e.place) × (0 < e.length) × IsInPlace (place_behind e) more

-- the place after the last of them, where they begin after this one
abbrev pub last_behind : ℕ → List Extent → ℕ
last_behind from [] = from
last_behind from (e ∷ more) = last_behind (place_behind e) more

-- no hole before an extent is longer
abbrev pub HasNoLonger : ℕ → ℕ → List Extent → Type 0
HasNoLonger longest from [] = Unit {0}
HasNoLonger longest from (e ∷ more) = (e.place ≤ from + longest) × HasNoLonger longest (place_behind e) more

-- the length of the hole before the first of them, 0 where there is none
abbrev pub hole_before : ℕ → List Extent → ℕ
hole_before from [] = 0
hole_before from (e ∷ more) = e.place - from

-- an extent fits after the first so many, and before the others
pub record FitsAt (taken : List Extent) (at : ℕ) (e : Extent) : Type 0 where
  pub within : at ≤ length taken
  pub prefix : last_behind 0 (take at taken) ≤ e.place
  pub back : IsInPlace (place_behind e) (drop at taken)

-- extents in order, whose ends fit, and a length that none of their holes passes
pub record IsKept (taken : List Extent) (longest : ℕ) : Type 0 where
  pub in_place : IsInPlace 0 taken
  pub fits : end_of taken < 2 ^ 64
  pub holes : HasNoLonger longest 0 taken

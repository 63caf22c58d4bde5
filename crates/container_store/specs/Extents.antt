-- Extents of the file of objects: which lie apart, which may be taken, and which fits first.
use Rattle.std.specs.Prelude.{◌≡◌, ℕ, ◌+◌, ◌<◌, max, nat_le, Bool, true, false, ◌||◌, ◌&&◌, List, [], ◌∷◌}
use Rattle.std.specs.List.{list_all}
use Rattle.cc_names.specs.declared.rows.Extent.{Extent}

-- the place directly after an extent
abbrev pub place_behind : Extent → ℕ
place_behind e = e.place + e.length

-- whether one of two extents ends before the other begins
abbrev pub are_apart : Extent → Extent → Bool
are_apart a b = nat_le (place_behind a) b.place || nat_le (place_behind b) a.place

-- whether an extent lies apart from all that are taken
abbrev pub is_free : List Extent → Extent → Bool
is_free taken e = list_all (are_apart e) taken

-- the place directly after the last extent, 0 where there is none
abbrev pub end_of : List Extent → ℕ
end_of [] = 0
end_of (e ∷ more) = max (place_behind e) (end_of more)

-- whether extents may be taken, one after the other, in a file of this size
abbrev pub may_take : ℕ → List Extent → List Extent → Bool
may_take size taken [] = true
may_take size taken (e ∷ more) = nat_le (place_behind e) size && (is_free taken e && may_take size (e ∷ taken) more)

-- so many bytes from a place on
abbrev pub extent_at : ℕ → ℕ → Extent
extent_at place length = record { place = place; length = length }

-- an extent of this length at the lowest place where so many bytes are free
pub record IsFirstFit (taken : List Extent) (length : ℕ) (e : Extent) : Type 0 where
  pub long : e.length ≡ length
  pub free : is_free taken e ≡ true
  pub first : (place : ℕ) → place < e.place → is_free taken (extent_at place length) ≡ false

-- A file between two syncs, and what a stop may leave of it.
use Rattle.std.specs.Prelude.{◌≡◌, ℕ, ◌+◌, ◌<◌, ◌≤◌, max, Bool, false, ◌||◌, ◌&&◌, nat_le, nat_lt, List, [], ◌∷◌, ◌++◌, length}
use Rattle.std.specs.Prelude.{take, drop, slice_index}

-- A file: the bytes that a read gives, the length at the last sync, the greatest length since, and the ranges written
-- since, each a place and a size.
pub record File : Type 0 where
  pub bytes : List ℕ
  pub least : ℕ
  pub most : ℕ
  pub written : List (ℕ × ℕ)

-- a file of which all is on the disk
abbrev pub stable : List ℕ → File
stable bytes = record { bytes = bytes; least = length bytes; most = length bytes; written = [] }

-- whether one of these ranges has the byte at this place
abbrev pub is_written : List (ℕ × ℕ) → ℕ → Bool
is_written [] i = false
is_written (range ∷ ranges) i = (nat_le range.0 i && nat_lt i (range.0 + range.1)) || is_written ranges i

-- The crash model: a stop leaves some length between the one at the last sync and the greatest since, any bytes in the
-- ranges written since and past the length at that sync, and every other byte as it reads.
pub record IsImage (file : File) (image : List ℕ) : Type 0 where
  pub no_shorter : file.least ≤ length image
  pub no_longer : length image ≤ file.most
  pub kept : (i : ℕ) → i < file.least → is_written file.written i ≡ false → slice_index image i ≡ slice_index file.bytes i

-- bytes with a piece written over them from a place on, which is at most their length
abbrev pub overwritten : ℕ → List ℕ → List ℕ → List ℕ
overwritten place piece bytes = take place bytes ++ piece ++ drop (place + length piece) bytes

-- After a write of n bytes that failed: any bytes in its range and past the old end, the same elsewhere.
pub record IsTorn (place n : ℕ) (old new : List ℕ) : Type 0 where
  pub no_shorter : length old ≤ length new
  pub no_longer : length new ≤ max (length old) (place + n)
  pub below : (i : ℕ) → i < length old → i < place → slice_index new i ≡ slice_index old i
  pub above : (i : ℕ) → i < length old → place + n ≤ i → slice_index new i ≡ slice_index old i

-- What of the file of objects no stop can change: extents that were synced and were not written since.
use Rattle.std.specs.Prelude.{◌≡◌, ◌≤◌, ℕ, Bool, true, [], ◌∷◌, length, map}
use Rattle.std.specs.List.{AllByRecursion}
use Rattle.cc_names.specs.declared.rows.Extent.{Extent}
use Rattle.disk_model.specs.Files.{File}
use Rattle.base_model.specs.Rows.{Base, size}
use Rattle.container_store.specs.Extents.{place_behind, is_free, extent_at}
use Rattle.story_log.specs.Stored.Taken.{extents_of}
use Rattle.story_log.specs.Stored.Fitting.{are_stored_rows}
use Rattle.story_log.specs.Stored.Founds.{AreRowsOf, is_live}

-- a range that was written, as an extent
abbrev pub extent_of_range : ℕ × ℕ → Extent
extent_of_range range = extent_at range.0 range.1

-- An extent ends below the length at the last sync, and lies apart from each range that was written since.
pub record IsKept (file : File) (e : Extent) : Type 0 where
  pub within : place_behind e ≤ file.least
  pub free : is_free (map extent_of_range file.written) e ≡ true

-- each extent of each live object is so, by the rows that frames spell
abbrev pub OfLive : (Extent → Type 0) → (ℕ → Bool) → Base → Type 0
OfLive P lives [] = Unit {0}
OfLive P lives (row ∷ older) = (lives (size older) ≡ true → AllByRecursion P (extents_of row.deed)) × OfLive P lives older

-- each extent of each live object is kept
abbrev pub AreKept : (ℕ → Bool) → File → Base → Type 0
AreKept lives file stored = OfLive (IsKept file) lives stored

-- What a file of objects has of the rows of a base, so that every stop finds it: the rows that frames spell may follow one
-- another in the file as it was at its last sync, the extents of live objects are kept, and they have the bytes.
pub record IsHeld (file : File) (stored b : Base) : Type 0 where
  pub reads : file.least ≤ length file.bytes
  pub good : are_stored_rows file.least stored ≡ true
  pub kept : AreKept (is_live b) file stored
  pub rows : AreRowsOf (is_live b) file.bytes stored b

-- Files that views were seen to have in the first rows of a base.
use Rattle.std.specs.Prelude.{◌≡◌, ℕ, ◌≤◌, Option, Some, List}
use Rattle.std.specs.HashMap.{HashMap, get}
use Rattle.std.specs.Str.{bytes_eq}
use Rattle.std.specs.declared.random_state.RandomState.{RandomState}
use Rattle.base_model.specs.Rows.{Base, first_rows, size}
use Rattle.base_model.specs.Seen.{file_at}
use Rattle.base_rows.specs.declared.seen_files.SeenFiles.{SeenFiles}

-- the rows of files by their paths, as a map has them
abbrev pub FileRows : Type 0
FileRows = HashMap (List ℕ) (Option ℕ) RandomState

-- each of the files is what a view sees in the rows of a base
abbrev pub AreFiles : Base → List ℕ → FileRows → Type 0
AreFiles b v files = (path : List ℕ) (row : Option ℕ) → get bytes_eq files path ≡ Some row → row ≡ file_at b v path

-- a file is kept, of so many first rows
abbrev pub IsSeenOnce : SeenFiles → ℕ → List ℕ → Option ℕ → Type 0
IsSeenOnce kept count path row = (kept.count ≡ count) × (get bytes_eq kept.files path ≡ Some row)

-- what is kept under this name is of a view, and where it is of as many rows as a base has, of that base
abbrev pub IsSeenIn : Base → List ℕ → List ℕ × SeenFiles → Type 0
IsSeenIn b v it = (it.0 ≡ v) × (it.1.count ≡ size b → AreFiles b v it.1.files)

-- the files that are kept of a view are what it sees in so many first rows of a base, which has so many
pub record AreSeen (b : Base) (v : List ℕ) (kept : SeenFiles) : Type 0 where
  pub within : kept.count ≤ size b
  pub files : AreFiles (first_rows kept.count b) v kept.files

-- the same of what is kept under a name, which is the view's
abbrev pub IsSeenAs : Base → List ℕ → List ℕ × SeenFiles → Type 0
IsSeenAs b v it = (it.0 ≡ v) × AreSeen b v it.1

-- what is kept of views, each by its name
abbrev pub Views : Type 0
Views = HashMap (List ℕ) SeenFiles RandomState

-- what is kept of each view is what it sees in the first rows of a base
pub record AreSeenByViews (b : Base) (seen : Views) : Type 0 where
  pub each : (v : List ℕ) (kept : SeenFiles) → get bytes_eq seen v ≡ Some kept → AreSeen b v kept

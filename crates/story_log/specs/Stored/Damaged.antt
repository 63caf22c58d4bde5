-- Where what was found on a disk is damaged.
use Rattle.std.specs.Prelude.{◌≡◌, ℕ, true, List, ◌∷◌, ◌++◌, length}
use Rattle.cc_names.specs.Formed.{IsFormed, Plain}
use Rattle.base_model.specs.Rows.{Base, size}
use Rattle.row_form.specs.Spelled.{spelling_of}
use Rattle.story_log.specs.Story.Formed.{AreFormed}
use Rattle.story_log.specs.Stored.Payloads.{payloads}
use Rattle.story_log.specs.Stored.Fitting.{fits_stored, are_stored_rows}
use Rattle.story_log.specs.Stored.Founds.{FoundFiles, Represents}

-- no formed row that may follow these rows has this spelling, where the file of objects has this length
abbrev pub MayNotFollow : ℕ → Base → List ℕ → Type 0
MayNotFollow long stored payload = (row : Plain) → IsFormed row → payload ≡ spelling_of row
    → fits_stored long stored row.deed ≡ true
    → ⊥

-- Frame n is the first that spells no formed row, or whose row may not follow those before it: it does not fit them, or one of
-- its extents passes the end of the file of objects or overlaps another of the row or of an object that is live there.
pub record IsDamaged (found : FoundFiles) (n : ℕ) : Type 0 where
  pub stored : Base
  pub payload : List ℕ
  pub rest : List (List ℕ)
  pub list_is : found.frames ≡ payloads stored ++ payload ∷ rest
  pub number : n ≡ size stored
  pub good : are_stored_rows (length found.objects) stored ≡ true
  pub formed : AreFormed stored
  pub unfit : MayNotFollow (length found.objects) stored payload

-- no frame is damaged
abbrev pub IsUndamaged : FoundFiles → Type 0
IsUndamaged found = (n : ℕ) → IsDamaged found n → ⊥

-- What represents a base is not damaged.
abbrev pub RepresentedIsUndamaged : Type 0
RepresentedIsUndamaged = (found : FoundFiles) (b : Base) → Represents found b → IsUndamaged found

-- One frame at most is damaged.
abbrev pub FoundIsDamagedOnce : Type 0
FoundIsDamagedOnce = (found : FoundFiles) (m n : ℕ) → IsDamaged found m → IsDamaged found n → m ≡ n

-- Frames spell one list of formed rows at most.
abbrev pub FramesAreOfOneList : Type 0
FramesAreOfOneList = (one two : Base) → AreFormed one → AreFormed two → payloads one ≡ payloads two → one ≡ two

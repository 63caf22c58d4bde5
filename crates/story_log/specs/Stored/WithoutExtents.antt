-- That where no frame names an extent, the journal alone says what is represented and what is damaged.
use Rattle.std.specs.Prelude.{◌≡◌, ◌↔◌, ℕ, true, List, ◌∷◌, ◌++◌, get_or}
use Rattle.std.specs.List.{AllByRecursion}
use Rattle.base_model.specs.Rows.{Base, size}
use Rattle.base_model.specs.Fits.{is_base}
use Rattle.story_log.specs.Bases.Reading.{IsUnfit}
use Rattle.story_log.specs.Story.Formed.{AreFormed}
use Rattle.story_log.specs.Stored.Damaged.{IsDamaged}
use Rattle.story_log.specs.Stored.Founds.{FoundFiles, Represents}
use Rattle.story_log.specs.Stored.Payloads.{payloads}

-- a frame's deed is no publish at extents: its code, at place 21, is not 23
abbrev pub HasNoExtent : List ℕ → Type 0
HasNoExtent payload = get_or payload 21 0 ≡ 23 → ⊥

-- No frame names an extent where files represent a base: a publish at extents fits no rows.
abbrev pub RepresentedHasNoExtent : Type 0
RepresentedHasNoExtent = (found : FoundFiles) (b : Base) → Represents found b → AllByRecursion HasNoExtent found.frames

-- Frames that spell the rows of a base of formed rows represent it, whatever the file of objects has.
abbrev pub SpelledIsRepresented : Type 0
SpelledIsRepresented = (found : FoundFiles) (b : Base) → is_base b ≡ true → AreFormed b → found.frames ≡ payloads b
    → Represents found b

-- Where no frame names an extent, and a base is one of formed rows, the frames represent it exactly where they spell its rows.
abbrev pub WithoutExtentsNothingChanges : Type 0
WithoutExtentsNothingChanges = (found : FoundFiles) (b : Base) → AllByRecursion HasNoExtent found.frames → is_base b ≡ true
    → AreFormed b
    → Represents found b ↔ (found.frames ≡ payloads b)

-- frame n of these is the first that spells no formed row, or whose row does not fit those before it
pub record IsDamagedFrame (list : List (List ℕ)) (n : ℕ) : Type 0 where
  pub base : Base
  pub payload : List ℕ
  pub rest : List (List ℕ)
  pub list_is : list ≡ payloads base ++ payload ∷ rest
  pub number : n ≡ size base
  pub good : is_base base ≡ true
  pub formed : AreFormed base
  pub unfit : IsUnfit base payload

-- Where no frame names an extent, a frame is damaged exactly where it is the first whose row does not fit those before it,
-- whatever the file of objects has.
abbrev pub WithoutExtentsDamageIsOfFrames : Type 0
WithoutExtentsDamageIsOfFrames = (found : FoundFiles) (n : ℕ) → AllByRecursion HasNoExtent found.frames
    → IsDamaged found n ↔ IsDamagedFrame found.frames n

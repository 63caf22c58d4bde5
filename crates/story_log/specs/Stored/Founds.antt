-- What is found on a disk, and which bases it represents.
use Rattle.std.specs.Prelude.{◌≡◌, ℕ, Bool, true, is_some, List, [], ◌∷◌, length, take, drop}
use Rattle.cc_names.specs.Formed.{Plain}
use Rattle.cc_names.specs.declared.rows.Extent.{Extent}
use Rattle.cc_names.specs.declared.rows.Stored.{Stored}
use Rattle.cc_names.specs.declared.rows.Stored.TheVariants.{Here, There}
use Rattle.cc_names.specs.declared.rows.Deed.{Deed}
use Rattle.cc_names.specs.declared.rows.Deed.TheVariants as deeds
use Rattle.base_model.specs.Rows.{Base, size}
use Rattle.base_model.specs.Changes.{live_row}
use Rattle.story_log.specs.Story.Formed.{AreFormed}
use Rattle.story_log.specs.Stored.Payloads.{payloads}
use Rattle.story_log.specs.Stored.Fitting.{are_stored_rows}

-- what is found on a disk: the frames of the journal, and the bytes of the file of objects
pub record FoundFiles : Type 0 where
  pub frames : List (List ℕ)
  pub objects : List ℕ

-- the bytes of an extent
abbrev pub bytes_at : List ℕ → Extent → List ℕ
bytes_at objects e = take e.length (drop e.place objects)

-- An output of a row, by what the frame has of it: the frame's own bytes, or where the object is live, those of its extent. The
-- output of a scrubbed object that has an extent may be any bytes.
abbrev pub IsOutput : Bool → List ℕ → Stored → List ℕ → Type 0
IsOutput lives objects (Here bytes) output = output ≡ bytes
IsOutput lives objects (There e) output = lives ≡ true → (e.length ≡ length output) × (bytes_at objects e ≡ output)

-- the same of all outputs, in order
abbrev pub AreOutputs : Bool → List ℕ → List Stored → List (List ℕ) → Type 0
AreOutputs lives objects [] [] = Unit {0}
AreOutputs lives objects [] (output ∷ outputs) = ⊥
AreOutputs lives objects (stored ∷ more) [] = ⊥
AreOutputs lives objects (stored ∷ more) (output ∷ outputs) = IsOutput lives objects stored output
    × AreOutputs lives objects more outputs

-- A deed of the base, by the deed that the frame spells: the publish with the same fields and with such outputs, else the same.
abbrev pub IsDeedOf : Bool → List ℕ → Deed → Deed → Type 0
IsDeedOf lives objects (deeds.PublishAt view targets script entries stored) deed =
    (outputs : List (List ℕ)) × (deed ≡ deeds.Publish view targets script entries outputs)
    × AreOutputs lives objects stored outputs
IsDeedOf lives objects spelt deed = deed ≡ spelt

-- a row of the base, by the row that the frame spells
pub record IsRowOf (lives : Bool) (objects : List ℕ) (spelt row : Plain) : Type 0 where
  pub tag : row.tag ≡ spelt.tag
  pub moment : row.moment ≡ spelt.moment
  pub deed : IsDeedOf lives objects spelt.deed row.deed

-- the rows of the base, by those that frames spell; the test tells which objects are live, by the numbers of their rows
abbrev pub AreRowsOf : (ℕ → Bool) → List ℕ → Base → Base → Type 0
AreRowsOf lives objects [] [] = Unit {0}
AreRowsOf lives objects [] (row ∷ older) = ⊥
AreRowsOf lives objects (spelt ∷ earlier) [] = ⊥
AreRowsOf lives objects (spelt ∷ earlier) (row ∷ older) =
    IsRowOf (lives (size older)) objects spelt row × AreRowsOf lives objects earlier older

-- whether an object is live, by the number of its row
abbrev pub is_live : Base → ℕ → Bool
is_live b id = is_some (live_row b id)

-- What was found represents a base: the frames spell formed rows that may follow one another, and the rows of the base are by
-- these, with the bytes of live objects as the file of objects has them.
pub record Represents (found : FoundFiles) (b : Base) : Type 0 where
  pub stored : Base
  pub spelled : found.frames ≡ payloads stored
  pub formed : AreFormed stored
  pub good : are_stored_rows (length found.objects) stored ≡ true
  pub rows : AreRowsOf (is_live b) found.objects stored b

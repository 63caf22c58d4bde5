-- The base that is opened where frames spell some rows: outputs of scrubbed objects that have extents are empty.
use Rattle.std.specs.Prelude.{◌≡◌, ℕ, Bool, true, false, List, [], ◌∷◌, length, map}
use Rattle.cc_names.specs.Formed.{Plain}
use Rattle.cc_names.specs.declared.rows.Stored.{Stored}
use Rattle.cc_names.specs.declared.rows.Stored.TheVariants.{Here, There}
use Rattle.cc_names.specs.declared.rows.Deed.{Deed}
use Rattle.cc_names.specs.declared.rows.Deed.TheVariants as deeds
use Rattle.base_model.specs.Rows.{Base, size}
use Rattle.story_log.specs.Story.Formed.{AreFormed}
use Rattle.story_log.specs.Stored.Fitting.{are_stored_rows, plain_rows}
use Rattle.story_log.specs.Stored.Founds.{FoundFiles, bytes_at, is_live}
use Rattle.story_log.specs.Stored.Payloads.{payloads}

-- an output: the bytes of its extent where the object is live
abbrev pub output_opened : Bool → List ℕ → Stored → List ℕ
output_opened lives objects (Here bytes) = bytes
output_opened true objects (There e) = bytes_at objects e
output_opened false objects (There e) = []

-- a deed with such outputs
abbrev pub deed_opened : Bool → List ℕ → Deed → Deed
deed_opened lives objects (deeds.PublishAt view targets script entries outputs) =
    deeds.Publish view targets script entries (map (output_opened lives objects) outputs)
deed_opened lives objects deed = deed

-- a row with such outputs
abbrev pub row_opened : Bool → List ℕ → Plain → Plain
row_opened lives objects row = record { tag = row.tag; moment = row.moment; deed = deed_opened lives objects row.deed }

-- rows with such outputs; the test tells which objects are live
abbrev pub rows_opened : (ℕ → Bool) → List ℕ → Base → Base
rows_opened lives objects [] = []
rows_opened lives objects (row ∷ older) = row_opened (lives (size older)) objects row ∷ rows_opened lives objects older

-- The base that is opened.
abbrev pub base_opened : List ℕ → Base → Base
base_opened objects stored = rows_opened (is_live (plain_rows stored)) objects stored

-- What was found opens to a base: its frames spell formed rows that may follow one another, and the base is the one of these
-- rows.
pub record IsOpenedAs (found : FoundFiles) (base : Base) : Type 0 where
  pub stored : Base
  pub spelled : found.frames ≡ payloads stored
  pub formed : AreFormed stored
  pub good : are_stored_rows (length found.objects) stored ≡ true
  pub is : base ≡ base_opened found.objects stored

-- What holds of rows as frames spell them, and of the bases that the files of a disk represent. Each law is promised by a
-- function of `laws`.
use Rattle.std.specs.Prelude.{◌≡◌, true, List, ℕ, length}
use Rattle.base_model.specs.Blanked.{AreSameButForScrubbedOutputs}
use Rattle.base_model.specs.Fits.{is_base}
use Rattle.base_model.specs.Rows.{Base}
use Rattle.disk_model.specs.Files.{File, IsImage}
use Rattle.legal_history.specs.Builds.Values.{IsSound}
use Rattle.story_log.specs.Story.Formed.{AreFormed}
use Rattle.story_log.specs.Stored.Payloads.{payloads}
use Rattle.story_log.specs.Stored.Fitting.{are_stored_rows}
use Rattle.story_log.specs.Stored.Founds.{FoundFiles, Represents}
use Rattle.story_log.specs.Stored.Kept.{IsHeld}
use Rattle.story_log.specs.Stored.Opened.{base_opened}

-- Where frames spell formed rows that may follow one another, the files represent the base that is opened.
abbrev pub OpenedBaseIsRepresented : Type 0
OpenedBaseIsRepresented = (found : FoundFiles) (stored : Base) → found.frames ≡ payloads stored → AreFormed stored
    → are_stored_rows (length found.objects) stored ≡ true → Represents found (base_opened found.objects stored)

-- What is represented is a base, each of whose rows fits those before it.
abbrev pub RepresentedIsABase : Type 0
RepresentedIsABase = (found : FoundFiles) (b : Base) → Represents found b → is_base b ≡ true

-- Each base that the files represent differs from the one that is opened in outputs of scrubbed objects alone.
abbrev pub RepresentedIsAlike : Type 0
RepresentedIsAlike = (found : FoundFiles) (b : Base) (represents : Represents found b)
    → AreSameButForScrubbedOutputs b (base_opened found.objects represents.stored)

-- So the one that is opened is sound where any of them is.
abbrev pub OpenedBaseIsSound : Type 0
OpenedBaseIsSound = (found : FoundFiles) (b : Base) (represents : Represents found b)
    → IsSound b → IsSound (base_opened found.objects represents.stored)

-- Whatever a stop leaves of a file of objects that keeps a base represents that base, with the frames of its rows.
abbrev pub KeptBaseIsRepresented : Type 0
KeptBaseIsRepresented = (file : File) (stored b : Base) (frames : List (List ℕ)) (image : List ℕ) → IsHeld file stored b
    → AreFormed stored → frames ≡ payloads stored → IsImage file image
    → Represents (record { frames = frames; objects = image }) b

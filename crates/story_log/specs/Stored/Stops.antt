-- What is found on a device, and what stops leave of both files.
use Rattle.std.specs.Prelude.{ℕ, List}
use Rattle.disk_model.specs.Devices.{Device, LeavesNow, MayLeave, bytes_now}
use Rattle.vob_journal.specs.Frames.{frames}
use Rattle.story_log.specs.Stored.Founds.{FoundFiles}

-- what is found in these bytes of both files
abbrev pub found_in : List ℕ → List ℕ → FoundFiles
found_in journal objects = record { frames = frames journal; objects = objects }

-- what is found on a device as it reads now
abbrev pub found_on : Device → FoundFiles
found_on d = found_in (bytes_now 0 d) (bytes_now 1 d)

-- these frames, with the file of objects as it reads now
abbrev pub found_with : List (List ℕ) → Device → FoundFiles
found_with list d = record { frames = list; objects = bytes_now 1 d }

-- Whatever a stop at call number k leaves of both files, or where k is one past the last, a stop after it, is so. What it leaves
-- of one file does not depend on what it leaves of the other.
abbrev pub OfEachStop : Device → ℕ → (FoundFiles → Type 0) → Type 0
OfEachStop d k P = (journal objects : List ℕ) → MayLeave 0 d k journal → MayLeave 1 d k objects → P (found_in journal objects)

-- whatever a stop after the last call leaves of both files is so
abbrev pub OfStopNow : Device → (FoundFiles → Type 0) → Type 0
OfStopNow d P = (journal objects : List ℕ) → LeavesNow 0 d journal → LeavesNow 1 d objects → P (found_in journal objects)

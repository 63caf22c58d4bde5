-- What is read at the head of the rest of a journal.
use Rattle.std.specs.Prelude.{◌≡◌, ◌≤◌, ◌+◌, ℕ, true, false, Option, Some, None, List, length, take, drop}
use Rattle.disk_model.specs.Devices.{Device}
use Rattle.vob_journal.specs.Frames.{head, is_shut}
use Rattle.vob_journal.specs.Windows.{IfShows}
use Rattle.vob_journal.specs.declared.reading.Head.{Head}
use Rattle.vob_journal.specs.declared.reading.Head.TheVariants.{Whole, Shut, Cut}
use Rattle.vob_journal.specs.declared.reading.Found.{Found}
use Rattle.vob_journal.specs.declared.reading.Found.TheVariants.{Payload, End}

-- what stands at the head of the rest of a journal
abbrev pub HeadTells : Head → List ℕ → Type 0
HeadTells (Whole size) rest = (head rest ≡ Some (take size (drop 5 rest))) × (5 + size ≤ length rest)
HeadTells Shut rest = (head rest ≡ None) × (is_shut rest ≡ true)
HeadTells Cut rest = (head rest ≡ None) × (is_shut rest ≡ false)

-- what was read at the head of the rest of a journal
abbrev pub FindsAtHead : Found → List ℕ → Type 0
FindsAtHead (Payload payload window) rest = head rest ≡ Some payload
FindsAtHead (End settled) rest = (head rest ≡ None) × (settled ≡ is_shut rest)

-- this payload was read
abbrev pub IsPayload : Found → List ℕ → Type 0
IsPayload (Payload payload window) bytes = payload ≡ bytes
IsPayload (End settled) bytes = ⊥

-- a frame that was read lies within the journal
abbrev pub IsFrameWithin : ℕ → ℕ → Found → Type 0
IsFrameWithin tail size (Payload payload window) = tail + (5 + length payload) ≤ size
IsFrameWithin tail size (End settled) = Unit {0}

-- the window in which it was read shows the journal
abbrev pub ShowsOn : Option Device → Found → Type 0
ShowsOn modeled (Payload payload window) = IfShows (Some window) modeled
ShowsOn modeled (End settled) = Unit {0}

-- the window in which it was read begins at this place or before
abbrev pub BeginsBy : ℕ → Found → Type 0
BeginsBy tail (Payload payload window) = window.start ≤ tail
BeginsBy tail (End settled) = Unit {0}

-- a whole frame lies within what is left
abbrev pub FitsIn : ℕ → Head → Type 0
FitsIn left (Whole size) = 5 + size ≤ left
FitsIn left Shut = Unit {0}
FitsIn left Cut = Unit {0}

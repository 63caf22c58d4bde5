-- What the calls of a journal answer.
use Rattle.std.specs.Prelude.{◌≡◌, ◌+◌, ℕ, Bool, true, false, Option, Some, None, Result, Ok, Err, is_ok, List, [], ◌∷◌, drop}
use Rattle.disk_model.specs.Counting.{next_count}
use Rattle.disk_model.specs.Devices.{Device, bytes_now}
use Rattle.disk_model.specs.DiskStates.{DiskState}
use Rattle.vob_journal.specs.Frames.{end_of_frames, is_shut}

-- the next payload of those that were still to be read, or the end of them
abbrev pub GivesNext : Option (List ℕ) → List (List ℕ) → List (List ℕ) → Type 0
GivesNext None rest rest' = (rest ≡ []) × (rest' ≡ [])
GivesNext (Some payload) rest rest' = rest ≡ payload ∷ rest'

-- the end of the list was read exactly where None was answered
abbrev pub Ends : {E : Type 0} → Result (Option (List ℕ)) E → Bool → Bool → Type 0
Ends (Ok None) old new = new ≡ true
Ends (Ok (Some payload)) old new = (old ≡ false) × (new ≡ false)
Ends (Err fault) old new = new ≡ old

-- as the end is read the tail is behind the last frame, and it is settled exactly where a gate byte other than 1 stands there
abbrev pub TailAtEnd : Option (List ℕ) → Bool → Bool → ℕ → Device → Type 0
TailAtEnd None false settled tail d = (tail ≡ end_of_frames (bytes_now 0 d)) × (settled ≡ is_shut (drop tail (bytes_now 0 d)))
TailAtEnd None true settled tail d = Unit {0}
TailAtEnd (Some payload) ended settled tail d = Unit {0}

-- one device call that succeeded
abbrev pub OneMore : DiskState → DiskState → Type 0
OneMore old new = (new.ticks ≡ old.ticks + 1) × (new.faults ≡ old.faults)

-- one device call that failed
abbrev pub OneFault : DiskState → DiskState → Type 0
OneFault old new = (new.ticks ≡ next_count old.ticks) × (new.faults ≡ next_count old.faults)

-- nothing changes, so no device call is made, and none fails
abbrev pub MakesNoCall : {D T E : Type 0} → Result T E → D → D → Type 0
MakesNoCall result old new = (is_ok result ≡ true) × (new ≡ old)

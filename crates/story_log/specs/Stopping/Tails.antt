-- The tail of a journal: where the next frame goes, and what stands there.
use Rattle.std.specs.Prelude.{◌≡◌, ℕ, ◌+◌, Bool, true, List, [], ◌∷◌, length, drop}
use Rattle.cc_names.specs.Formed.{Plain}
use Rattle.disk_model.specs.Devices.{Device, bytes_now}
use Rattle.legal_history.specs.Stories.States.{End}
use Rattle.row_form.specs.Spelled.{spelling_of}
use Rattle.vob_journal.specs.Frames.{is_shut, end_of_frames}
use Rattle.vob_journal.specs.Lefts.{settled_after}
use Rattle.vob_journal.specs.Shown.{Shown}
use Rattle.vob_journal.specs.declared.left.Left.{Left}

-- the place after the last frame, and whether the tail is settled: a shut gate stands there, on the disk
pub record Tail : Type 0 where
  pub place : ℕ
  pub settled : Bool

-- that of a journal
abbrev pub tail_of : {D : Type 0} → Shown D → Tail
tail_of journal = record { place = journal.tail; settled = journal.settled }

-- a tail as it is found when a base is opened: it is settled exactly where a gate byte other than 1 stands there
abbrev pub IsFoundTail : Tail → Device → Type 0
IsFoundTail tail d = (tail.place ≡ end_of_frames (bytes_now 0 d)) × (tail.settled ≡ is_shut (drop tail.place (bytes_now 0 d)))

-- after a frame with this payload was committed
abbrev pub tail_after_frame : Tail → List ℕ → Tail
tail_after_frame tail payload = record { place = tail.place + (5 + length payload); settled = true }

-- and after a row was
abbrev pub tail_after_row : Tail → Plain → Tail
tail_after_row tail row = tail_after_frame tail (spelling_of row)

-- after the calls that settle the tail, of which none failed, or one did: as it was where there was no commit or fault
abbrev pub tail_after_settling : List End → Bool → Tail → Tail
tail_after_settling [] all tail = tail
tail_after_settling (newest ∷ earlier) all tail = record { place = tail.place; settled = all }

-- after a commit that failed and left this
abbrev pub tail_after_fault : Tail → Left → Tail
tail_after_fault tail left = record { place = tail.place; settled = settled_after left }

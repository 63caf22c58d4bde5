-- The pieces in which a journal is read once.
use Rattle.std.specs.Prelude.{◌≡◌, ◌⊎◌, ◌<◌, ◌≤◌, ◌+◌, ◌-◌, ℕ, min, max, Option, Some, None, Result, Ok, Err, List, [], ◌∷◌, ◌++◌}
use Rattle.std.specs.Prelude.{length, drop}
use Rattle.disk_model.specs.Devices.{Device, Event, Fetched, Measured, Failed, with_call, bytes_now}
use Rattle.disk_model.specs.DiskStates.{DiskState, Both}
use Rattle.vob_journal.specs.Foreign.{behind}
use Rattle.vob_journal.specs.Frames.{head, place_after}
use Rattle.vob_journal.specs.Shown.{Shown, frames_read}
use Rattle.vob_journal.specs.declared.reading.Found.{Found}
use Rattle.vob_journal.specs.declared.reading.Found.TheVariants.{Payload, End}

-- How many bytes say what stands at the head of the rest of a journal: those of the whole frame, else the first five, or all
-- where there are fewer. The five are read also where the first is a gate that is shut.
abbrev pub needed_by : Option (List ℕ) → List ℕ → ℕ
needed_by (Some payload) rest = 5 + length payload
needed_by None rest = min 5 (length rest)

abbrev pub needed : List ℕ → ℕ
needed rest = needed_by (head rest) rest

-- how many bytes of the rest of a journal are read at once: 64 KiB, or all of it
abbrev pub piece : List ℕ → ℕ
piece rest = min 65536 (length rest)

-- the first five bytes of the rest of a journal, in which a frame says its length, or all where there are fewer
abbrev pub first_five : List ℕ → ℕ
first_five rest = min 5 (length rest)

-- so many bytes are sought at the head of the rest of a journal: the first five, or the whole frame
abbrev pub IsSought : ℕ → List ℕ → Type 0
IsSought count rest = (count ≡ first_five rest) ⊎ (count ≡ needed rest)

-- No call, one that failed, or one that read the journal from this place on: 64 KiB, or all that is left; or so many bytes, where
-- these are more.
abbrev pub ReadsPiece : ℕ → ℕ → Device → Device → Type 0
ReadsPiece place count d e = (e ≡ d) ⊎ (e ≡ with_call Failed d)
    ⊎ (e ≡ with_call (Fetched 0 place (max (piece (drop place (bytes_now 0 d))) count)) d)

-- A piece of a journal of these bytes is read from a place on, where the journal had been read so far: only where that does not
-- reach over all that says what stands at the place, and further than that. It has 64 KiB, or all that is left; or the whole
-- frame, where that is longer, and less of it only where the first five bytes had not been read. So at most two are read from one
-- place.
pub record IsPiece (bytes : List ℕ) (had place size : ℕ) : Type 0 where
  pub unread : had < place + needed (drop place bytes)
  pub further : had < place + size
  pub long : (size ≡ max (piece (drop place bytes)) (needed (drop place bytes)))
      ⊎ ((size ≡ piece (drop place bytes)) × (had < place + first_five (drop place bytes)))

-- By these calls, the newest first, a journal of these bytes was read on, whose first frames, so many, had been read, and which
-- had been read so far, until it was known what stands after fewer frames than this number. Each reads a piece that begins where
-- a frame ends, no earlier than the one before.
abbrev pub ReadsForth : List ℕ → ℕ → ℕ → List Event → ℕ → ℕ → Type 0
ReadsForth bytes from had [] to has = (from ≤ to) × (has ≡ had)
ReadsForth bytes from had (Fetched file place size ∷ earlier) to has =
    (file ≡ 0) × (has ≡ place + size) × ((number : ℕ) × (number < to) × (place ≡ place_after number bytes)
    × ((before : ℕ) × IsPiece bytes before place size × ReadsForth bytes from had earlier (number + 1) before))
ReadsForth bytes from had (event ∷ earlier) to has = ⊥

-- so it was read on from one device to another
pub record IsReadForth (from had to has : ℕ) (d e : Device) : Type 0 where
  pub more : List Event
  pub calls : e.calls ≡ more ++ d.calls
  pub same : bytes_now 0 e ≡ bytes_now 0 d
  pub forth : ReadsForth (bytes_now 0 d) from had more to has

-- calls but for the newest, where that failed
abbrev pub but_failed : List Event → List Event
but_failed (Failed ∷ earlier) = earlier
but_failed calls = calls

-- so it was read on, until a call failed or memory ran out
pub record IsReadUntil (from had to : ℕ) (d e : Device) : Type 0 where
  pub more : List Event
  pub calls : e.calls ≡ more ++ d.calls
  pub same : bytes_now 0 e ≡ bytes_now 0 d
  pub has : ℕ
  pub forth : ReadsForth (bytes_now 0 d) from had (but_failed more) to has

-- so it was read at a place where a frame ends, and nowhere else
abbrev pub ReadsAt : ℕ → ℕ → ℕ → Device → Device → Type 0
ReadsAt place had has d e =
    (number : ℕ) → place ≡ place_after number (bytes_now 0 d) → IsReadForth (number + 1) had (number + 1) has d e

-- the same, until a call failed or memory ran out
abbrev pub ReadsUntil : ℕ → ℕ → Device → Device → Type 0
ReadsUntil place had d e =
    (number : ℕ) → place ≡ place_after number (bytes_now 0 d) → IsReadUntil (number + 1) had (number + 1) d e

-- so a frame was read at a place, or the end of the list
abbrev pub ReadsFrame : ℕ → ℕ → Found → Device → Device → Type 0
ReadsFrame tail had (Payload payload window) d e = ReadsAt tail had (window.start + length window.bytes.items) d e
ReadsFrame tail had (End settled) d e = (has : ℕ) × ReadsAt tail had has d e

-- so it was read from its start on to a place where a frame ends
pub record ReadsTo (place has : ℕ) (d e : Device) : Type 0 where
  pub number : ℕ
  pub at : place ≡ place_after number (bytes_now 0 d)
  pub forth : IsReadForth 0 0 number has d e

-- so it was read from its start on
abbrev pub ReadsFromStart : Device → Device → Type 0
ReadsFromStart d e = (to : ℕ) × (has : ℕ) × IsReadForth 0 0 to has d e

-- so it was read from its start on, until a call failed or memory ran out
abbrev pub ReadsFromStartUntil : Device → Device → Type 0
ReadsFromStartUntil d e = (to : ℕ) × IsReadUntil 0 0 to d e

-- so the next frame of a journal was read: where there is one, the journal can be read on after it; else nothing after it was
abbrev pub ReadsNext : {A D E : Type 0} → Result (Option A) E → (D → DiskState) → Shown D → Shown D → Type 0
ReadsNext (Ok (Some frame)) ghost_state old new = Both (IsReadForth (frames_read old) old.reach (frames_read new) new.reach)
    (ghost_state old.disk).modeled (ghost_state new.disk).modeled
ReadsNext (Ok None) ghost_state old new = Both (IsReadUntil (frames_read old) old.reach (frames_read old + 1))
    (ghost_state old.disk).modeled (ghost_state new.disk).modeled
ReadsNext (Err fault) ghost_state old new = Both (IsReadUntil (frames_read old) old.reach (frames_read old + 1))
    (ghost_state old.disk).modeled (ghost_state new.disk).modeled

-- These calls, the newest first, read a journal of these bytes once: none was made; or its length was asked, and it was read on
-- from its start, until it was known what stands after fewer frames than this number.
abbrev pub OpensBy : List ℕ → List Event → ℕ → Type 0
OpensBy bytes calls to = (calls ≡ [])
    ⊎ ((pieces : List Event) × (has : ℕ) × (calls ≡ pieces ++ Measured 0 ∷ []) × ReadsForth bytes 0 0 pieces to has)

-- *The journal was read once*, no further than where it is known what stands after fewer frames than this number, until a call
-- failed or memory ran out: no other call was made, of either file.
pub record ReadsOnceTo (to : ℕ) (d e : Device) : Type 0 where
  pub more : List Event
  pub calls : e.calls ≡ more ++ d.calls
  pub once : OpensBy (bytes_now 0 d) (but_failed more) to

-- *The journal was read once*, to any of its frames or to its end.
abbrev pub ReadsOnce : Device → Device → Type 0
ReadsOnce d e = (to : ℕ) × ReadsOnceTo to d e

-- so a journal of these bytes was read once, and then at most one piece of it more, after its last whole frame
abbrev pub LooksBy : List ℕ → List Event → Type 0
LooksBy bytes calls = ((to : ℕ) × OpensBy bytes calls to)
    ⊎ ((to : ℕ) × (earlier : List Event) × OpensBy bytes earlier to
    × (calls ≡ Fetched 0 (length bytes - length (behind bytes)) (piece (behind bytes)) ∷ earlier))

-- the journal was read once, and then at most one piece of it more, until a call failed or memory ran out
pub record LooksBehind (d e : Device) : Type 0 where
  pub more : List Event
  pub calls : e.calls ≡ more ++ d.calls
  pub looks : LooksBy (bytes_now 0 d) (but_failed more)

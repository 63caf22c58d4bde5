-- A device of two files, given by what it held at first and by the list of its calls, and what a stop at each call leaves.
use Rattle.std.specs.Prelude.{◌≡◌, ◌⊎◌, ℕ, ◌+◌, max, ◌==◌, Bool, true, false, if◌then◌else◌, List, [], ◌∷◌, length}
use Rattle.disk_model.specs.Files.{File, stable, overwritten, IsImage, IsTorn}

-- A device call, with what it left: file 0 is the journal, file 1 the objects.
pub data Event : Type 0 where
  -- the file's length was asked
  Measured : (file : ℕ) → Event
  -- so many bytes were read from a place on
  Fetched : (file place size : ℕ) → Event
  -- so many bytes were to be written from a place on, and then the file reads so
  Wrote : (file place size : ℕ) (left : List ℕ) → Event
  -- so many bytes were to be written from a place on, this failed, and then the file reads so
  Tore : (file place size : ℕ) (left : List ℕ) → Event
  -- the file is on the disk as it reads
  Synced : (file : ℕ) → Event
  -- the call failed before it did anything
  Failed : Event

-- whether a call failed
abbrev pub is_failed : Event → Bool
is_failed (Tore file place size left) = true
is_failed Failed = true
is_failed event = false

-- how many of some calls failed
abbrev pub failures : List Event → ℕ
failures [] = 0
failures (event ∷ earlier) = (if is_failed event then 1 else 0) + failures earlier

-- both files as they were handed in, each of them stable, and the calls since, the newest first
pub record Device : Type 0 where
  pub journal : List ℕ
  pub objects : List ℕ
  pub calls : List Event

-- a device that no call was made on
abbrev pub new_device : List ℕ → List ℕ → Device
new_device journal objects = record { journal = journal; objects = objects; calls = [] }

-- a device on which one more call was made
abbrev pub with_call : Event → Device → Device
with_call event d = record d { calls = event ∷ d.calls }

-- a file after a call that may have written it
abbrev pub written_to : File → ℕ → ℕ → List ℕ → File
written_to s place size left =
    record { bytes = left; least = s.least; most = max s.most (place + size); written = (place, size) ∷ s.written }

-- a file after a call
abbrev pub file_after_call : ℕ → Event → File → File
file_after_call file (Measured other) s = s
file_after_call file (Fetched other place size) s = s
file_after_call file (Wrote other place size left) s = if other == file then written_to s place size left else s
file_after_call file (Tore other place size left) s = if other == file then written_to s place size left else s
file_after_call file (Synced other) s = if other == file then stable s.bytes else s
file_after_call file Failed s = s

-- a file within a call: a sync under way has done nothing yet
abbrev pub during : ℕ → Event → File → File
during file (Measured other) s = s
during file (Fetched other place size) s = s
during file (Wrote other place size left) s = file_after_call file (Wrote other place size left) s
during file (Tore other place size left) s = file_after_call file (Tore other place size left) s
during file (Synced other) s = s
during file Failed s = s

-- a file after all of these calls
abbrev pub file_after : ℕ → List ℕ → List Event → File
file_after file first [] = stable first
file_after file first (event ∷ earlier) = file_after_call file event (file_after file first earlier)

-- a file as it was handed in
abbrev pub bytes_handed_in : ℕ → Device → List ℕ
bytes_handed_in file d = if file == 0 then d.journal else d.objects

-- a file as it is now
abbrev pub file_of : ℕ → Device → File
file_of file d = file_after file (bytes_handed_in file d) d.calls

-- a file as a read gives it now
abbrev pub bytes_now : ℕ → Device → List ℕ
bytes_now file d = (file_of file d).bytes

-- whether a stop at call number k, counted from 1, among these calls may leave this of a file
abbrev pub Stopped : ℕ → List ℕ → List Event → ℕ → List ℕ → Type 0
Stopped file first [] k image = ⊥
Stopped file first (event ∷ earlier) k image =
    ((k ≡ length earlier + 1) × IsImage (during file event (file_after file first earlier)) image)
    ⊎ Stopped file first earlier k image

-- Whether a stop at call number k may leave this of a file. What stops at earlier calls leave does not change.
abbrev pub Leaves : ℕ → Device → ℕ → List ℕ → Type 0
Leaves file d k image = Stopped file (bytes_handed_in file d) d.calls k image

-- whether a stop after the last call may leave this of a file
abbrev pub LeavesNow : ℕ → Device → List ℕ → Type 0
LeavesNow file d image = IsImage (file_of file d) image

-- whether a stop at call number k, or where k is one past the last, after it, may leave this of a file
abbrev pub MayLeave : ℕ → Device → ℕ → List ℕ → Type 0
MayLeave file d k image = Leaves file d k image ⊎ ((k ≡ length d.calls + 1) × LeavesNow file d image)

-- what each call does, where it answers Ok
abbrev pub Measures : ℕ → Device → Device → Type 0
Measures file d e = e ≡ with_call (Measured file) d

-- bytes are fetched
abbrev pub Fetches : ℕ → ℕ → ℕ → Device → Device → Type 0
Fetches file place size d e = e ≡ with_call (Fetched file place size) d

-- a piece is written over what stood at its place
abbrev pub Writes : ℕ → ℕ → List ℕ → Device → Device → Type 0
Writes file place piece d e = e ≡ with_call (Wrote file place (length piece) (overwritten place piece (bytes_now file d))) d

-- a file is synced
abbrev pub Syncs : ℕ → Device → Device → Type 0
Syncs file d e = e ≡ with_call (Synced file) d

-- what a call does that fails and changes nothing: it may also not have been made at all
abbrev pub Idles : Device → Device → Type 0
Idles d e = (e ≡ d) ⊎ (e ≡ with_call Failed d)

-- what a failed write does: nothing, or it leaves the range torn
abbrev pub Tears : ℕ → ℕ → ℕ → Device → Device → Type 0
Tears file place size d e =
    Idles d e ⊎ ((left : List ℕ) × IsTorn place size (bytes_now file d) left × (e ≡ with_call (Tore file place size left) d))

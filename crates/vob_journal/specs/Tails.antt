-- How a journal's file ends, after the last frame of its list.
use Rattle.std.specs.Prelude.{◌≡◌, ◌≢◌, ◌≤◌, ◌<◌, ◌+◌, ℕ, max, Bool, true, false, List, [], ◌∷◌, ◌++◌, length, take, drop}
use Rattle.std.specs.Prelude.{slice_index}
use Rattle.disk_model.specs.Files.{File, is_written, stable}
use Rattle.disk_model.specs.Devices.{Device, file_of, bytes_now}
use Rattle.vob_journal.specs.Frames.{frames, place_after}

-- bytes that end with their last frame: what follows them is read as a journal of its own
pub record IsWhole (prefix : List ℕ) : Type 0 where
  pub goes_on : (rest : List ℕ) → frames (prefix ++ rest) ≡ frames prefix ++ frames rest

-- up to its tail a file has this list whole, and all of that is on the disk
pub record HoldsPrefix (list : List (List ℕ)) (tail : ℕ) (file : File) : Type 0 where
  pub synced : tail ≤ file.least
  pub reads : file.least ≤ length file.bytes
  pub whole : IsWhole (take tail file.bytes)
  pub lists : frames (take tail file.bytes) ≡ list

-- A settled tail: a shut gate stands there, and it is on the disk.
pub record IsShut (list : List (List ℕ)) (tail : ℕ) (file : File) : Type 0 where
  pub prefix : HoldsPrefix list tail file
  pub gate_synced : tail < file.least
  pub gate : slice_index file.bytes tail ≢ 1
  pub untouched : (i : ℕ) → i ≤ tail → is_written file.written i ≡ false

-- A tail that is not settled: its gate byte may read as anything after a stop, and if it reads as open, then these are
-- found after the list.
pub record IsAjar (list leftover : List (List ℕ)) (tail : ℕ) (file : File) : Type 0 where
  pub prefix : HoldsPrefix list tail file
  pub longest : length file.bytes ≤ file.most
  pub gate_last : file.most ≤ max file.least (tail + 1)
  pub untouched : (i : ℕ) → i ≢ tail → is_written file.written i ≡ false
  pub behind : frames (1 ∷ drop (tail + 1) file.bytes) ≡ leftover

-- the list that ends at this tail
abbrev pub list_at : ℕ → Device → List (List ℕ)
list_at tail d = frames (take tail (bytes_now 0 d))

-- what may be found after this tail, unless it is settled
abbrev pub leftover_at : Bool → ℕ → Device → List (List ℕ)
leftover_at true tail d = []
leftover_at false tail d = frames (1 ∷ drop (tail + 1) (bytes_now 0 d))

-- the journal's file ends so, settled or not
abbrev pub IsTail : Bool → ℕ → Device → Type 0
IsTail true tail d = IsShut (list_at tail d) tail (file_of 0 d)
IsTail false tail d = IsAjar (list_at tail d) (leftover_at false tail d) tail (file_of 0 d)

-- while it is still read: the file is as it was handed in, and so many frames as were read end at this place
pub record IsStillRead (place size : ℕ) (d : Device) : Type 0 where
  pub as_opened : file_of 0 d ≡ stable (bytes_now 0 d)
  pub within : place ≤ length (bytes_now 0 d)
  pub all : size ≡ length (bytes_now 0 d)
  pub whole : IsWhole (take place (bytes_now 0 d))
  pub after : place ≡ place_after (length (frames (take place (bytes_now 0 d)))) (bytes_now 0 d)

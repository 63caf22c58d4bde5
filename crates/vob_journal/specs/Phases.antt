-- The phases of a commit.
use Rattle.std.specs.Prelude.{◌≡◌, ◌≤◌, ◌+◌, ℕ, Bool, true, if◌then◌else◌, Result, MatchResult, List, [], ◌∷◌, ◌++◌, length, drop}
use Rattle.disk_model.specs.Counting.{next_count}
use Rattle.disk_model.specs.Files.{File, stable}
use Rattle.disk_model.specs.Devices.{Device, file_of}
use Rattle.disk_model.specs.DiskStates.{DiskState}
use Rattle.vob_journal.specs.Calls.{FailsToPut, KeepsFrames, put_down}
use Rattle.vob_journal.specs.Frames.{frames, frame_after_gate}
use Rattle.vob_journal.specs.Moves.{Passes, Stands}
use Rattle.vob_journal.specs.Tails.{IsShut, IsAjar, list_at}

-- a piece was written and synced
abbrev pub PutsDown : ℕ → List ℕ → Device → Device → Type 0
PutsDown place piece d e = e ≡ put_down place piece d

-- a file with this payload whole and synced after a shut gate
pub record IsStaged (list : List (List ℕ)) (payload : List ℕ) (tail : ℕ) (file : File) : Type 0 where
  pub synced : file ≡ stable file.bytes
  pub shut : IsShut list tail file
  pub frame : (rest : List ℕ) × (drop (tail + 1) file.bytes ≡ frame_after_gate payload ++ rest)

-- the same of the journal of a device
abbrev pub IsStagedAt : ℕ → List ℕ → Device → Type 0
IsStagedAt tail payload d = IsStaged (list_at tail d) payload tail (file_of 0 d)

-- a payload was staged
pub record Stages (tail : ℕ) (payload : List ℕ) (d e : Device) : Type 0 where
  pub passes : Passes d e (λ image. frames image ≡ list_at tail d)
  pub staged : IsStaged (list_at tail d) payload tail (file_of 0 e)
  pub calls : e ≡ put_down (tail + 1) (frame_after_gate payload) d

-- a payload was not staged for certain
pub record FailsToStage (tail : ℕ) (payload : List ℕ) (d e : Device) : Type 0 where
  pub keeps : KeepsFrames true true tail d e
  pub calls : FailsToPut (tail + 1) (frame_after_gate payload) d e

-- the gate before a payload was opened
pub record OpensGate (tail : ℕ) (payload : List ℕ) (d e : Device) : Type 0 where
  pub passes : Passes d e (Stands (list_at tail d) (payload ∷ []))
  pub shut : IsShut (list_at tail d ++ payload ∷ []) (tail + (5 + length payload)) (file_of 0 e)
  pub calls : e ≡ put_down tail (1 ∷ []) d

-- the gate before a payload was not opened for certain: a stop may leave it open or shut
pub record MayOpen (tail : ℕ) (payload : List ℕ) (d e : Device) : Type 0 where
  pub passes : Passes d e (Stands (list_at tail d) (payload ∷ []))
  pub ajar : IsAjar (list_at tail d) (payload ∷ []) tail (file_of 0 e)
  pub calls : FailsToPut tail (1 ∷ []) d e

-- After Ok the count of device calls is greater by exactly so many, and that of faults is as it was. After a fault the count of
-- calls is greater by one or more, unless it stands at its last number, and by at most so many; one fault more is counted.
abbrev pub Spends : {T E : Type 0} → ℕ → Result T E → DiskState → DiskState → Type 0
Spends calls result old new = MatchResult result
    (λ _. (new.ticks ≡ old.ticks + calls) × (new.faults ≡ old.faults))
    (λ _. (next_count old.ticks ≤ new.ticks) × (new.ticks ≤ old.ticks + calls) × (new.faults ≡ next_count old.faults))

-- the device calls of a commit
abbrev pub calls_of : Bool → ℕ
calls_of settled = if settled then 4 else 6

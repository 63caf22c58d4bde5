-- The device calls that write a journal.
use Rattle.std.specs.Prelude.{◌≡◌, ◌⊎◌, ℕ, ◌+◌, Bool, true, false, List, [], ◌∷◌, ◌++◌, length}
use Rattle.disk_model.specs.Files.{overwritten, IsTorn}
use Rattle.disk_model.specs.Devices.{Device, Wrote, Tore, Synced, Failed, with_call, bytes_now}
use Rattle.vob_journal.specs.Added.{Adds, may_write}
use Rattle.vob_journal.specs.declared.left.Left.{Left}
use Rattle.vob_journal.specs.declared.left.Left.TheVariants.{Nothing, Earlier, InFlight}
use Rattle.vob_journal.specs.Frames.{frame_after_gate}
use Rattle.vob_journal.specs.Lefts.{settled_after, leftover_after}
use Rattle.vob_journal.specs.Moves.{Moves}
use Rattle.vob_journal.specs.Tails.{list_at, leftover_at, IsTail}

-- a piece was written to the journal
abbrev pub put : ℕ → List ℕ → Device → Device
put place piece d = with_call (Wrote 0 place (length piece) (overwritten place piece (bytes_now 0 d))) d

-- a piece was written to the journal, and the journal was synced
abbrev pub put_down : ℕ → List ℕ → Device → Device
put_down place piece d = with_call (Synced 0) (put place piece d)

-- A piece was not put down: nothing was done, or a write of it failed, which may have torn its range, or it was written and not
-- synced.
abbrev pub FailsToPut : ℕ → List ℕ → Device → Device → Type 0
FailsToPut place piece d e = (e ≡ d) ⊎ (e ≡ with_call Failed d)
    ⊎ ((left : List ℕ) × IsTorn place (length piece) (bytes_now 0 d) left
    × (e ≡ with_call (Tore 0 place (length piece) left) d))
    ⊎ (e ≡ put place piece d) ⊎ (e ≡ with_call Failed (put place piece d))

-- a tail that was not settled was settled: its gate was shut
abbrev pub settled_first : Bool → ℕ → Device → Device
settled_first true tail d = d
settled_first false tail d = put_down tail (0 ∷ []) d

-- The device calls of a commit: where the tail is not settled, its gate is shut and synced; length, payload and the next
-- gate, shut, are written after the gate and synced; then the gate is opened and synced.
abbrev pub device_after_commit : Bool → ℕ → List ℕ → Device → Device
device_after_commit settled tail payload d = put_down tail (1 ∷ []) (put_down (tail + 1) (frame_after_gate payload)
    (settled_first settled tail d))

-- The device calls of a commit that failed, by what it left: the shut gate of a tail that is not settled was not put down, or
-- after that the frame was not, or after both the open gate was not.
abbrev pub FailsToCommit : Bool → ℕ → List ℕ → Left → Device → Device → Type 0
FailsToCommit settled tail payload Earlier d e = (settled ≡ false) × FailsToPut tail (0 ∷ []) d e
FailsToCommit settled tail payload Nothing d e =
    FailsToPut (tail + 1) (frame_after_gate payload) (settled_first settled tail d) e
FailsToCommit settled tail payload InFlight d e =
    FailsToPut tail (1 ∷ []) (put_down (tail + 1) (frame_after_gate payload) (settled_first settled tail d)) e

-- a settling call, or a phase of it, keeps the list
pub record KeepsFrames (settled settled' : Bool) (tail : ℕ) (d e : Device) : Type 0 where
  pub moves : Moves (list_at tail d) (leftover_at settled tail d) (list_at tail e) (leftover_at settled' tail e) d e
  pub ends : IsTail settled' tail e
  pub same_list : list_at tail e ≡ list_at tail d
  pub adds : Adds may_write d e

-- the tail was settled
pub record Settles (settled : Bool) (tail : ℕ) (d e : Device) : Type 0 where
  pub keeps : KeepsFrames settled true tail d e
  pub calls : e ≡ settled_first settled tail d

-- settling failed: what was left over is left over
pub record LeavesLeftover (settled : Bool) (tail : ℕ) (d e : Device) : Type 0 where
  pub was_unsettled : settled ≡ false
  pub keeps : KeepsFrames false false tail d e
  pub same_leftover : leftover_at false tail e ≡ leftover_at false tail d
  pub calls : FailsToPut tail (0 ∷ []) d e

-- a payload was committed
pub record CommitsFrame (settled : Bool) (tail : ℕ) (payload : List ℕ) (d e : Device) : Type 0 where
  pub moves : Moves (list_at tail d) (leftover_at settled tail d) (list_at (tail + (5 + length payload)) e) [] d e
  pub ends : IsTail true (tail + (5 + length payload)) e
  pub list : list_at (tail + (5 + length payload)) e ≡ list_at tail d ++ payload ∷ []
  pub calls : e ≡ device_after_commit settled tail payload d

-- a commit failed, and left this
pub record FailsToAppend (settled : Bool) (tail : ℕ) (payload : List ℕ) (left : Left) (d e : Device) : Type 0 where
  pub keeps : KeepsFrames settled (settled_after left) tail d e
  pub leftover : leftover_at (settled_after left) tail e ≡ leftover_after left (leftover_at settled tail d) payload
  pub calls : FailsToCommit settled tail payload left d e

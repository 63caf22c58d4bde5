-- What calls on the file of objects leave of a journal.
use Rattle.std.specs.Prelude.{◌≡◌, ◌⊎◌, ◌≤◌, ◌<◌, ℕ, List, length}
use Rattle.disk_model.specs.Devices.{Device, file_of, Leaves, LeavesNow}
use Rattle.disk_model.specs.DiskStates.{DiskState, Both}
use Rattle.vob_journal.specs.Shown.{Shown}

-- Calls on file 1 lead from one device to another: file 0 stays as it was, and stops since leave what a stop before would have
-- left of it.
pub record StoresOn (d e : Device) : Type 0 where
  pub no_fewer : length d.calls ≤ length e.calls
  pub journal : file_of 0 e ≡ file_of 0 d
  pub each : (k : ℕ) (image : List ℕ) → Leaves 0 e k image → Leaves 0 d k image ⊎ ((length d.calls < k) × LeavesNow 0 d image)

-- all that is seen of a journal stays, but that its disk was called on file 1
pub record KeepsJournal {D : Type 0} (ghost_state : D → DiskState) (old new : Shown D) : Type 0 where
  pub tail : new.tail ≡ old.tail
  pub list : new.list ≡ old.list
  pub rest : new.rest ≡ old.rest
  pub leftover : new.leftover ≡ old.leftover
  pub ended : new.ended ≡ old.ended
  pub settled : new.settled ≡ old.settled
  pub left : new.left ≡ old.left
  pub reach : new.reach ≡ old.reach
  pub stores : Both StoresOn (ghost_state old.disk).modeled (ghost_state new.disk).modeled

-- The device calls that read a journal.
use Rattle.std.specs.Prelude.{◌≡◌, ◌≤◌, ◌+◌, ℕ, Result, Ok, Err}
use Rattle.disk_model.specs.Counting.{next_count}
use Rattle.disk_model.specs.Devices.{Device, file_of, LeavesNow}
use Rattle.disk_model.specs.DiskStates.{DiskState}
use Rattle.cc_names.specs.declared.memory.Or.{Or}
use Rattle.cc_names.specs.declared.memory.Or.TheVariants.{NoMemory, Is}
use Rattle.vob_journal.specs.Added.{Adds, may_read}
use Rattle.vob_journal.specs.Moves.{Passes}

-- the file of objects is as it was
abbrev pub SameObjects : Device → Device → Type 0
SameObjects d e = file_of 1 e ≡ file_of 1 d

-- both files are as they were
pub record SameFiles (d e : Device) : Type 0 where
  pub journal : file_of 0 e ≡ file_of 0 d
  pub objects : file_of 1 e ≡ file_of 1 d

-- calls that read were made, the journal stays as it is, and stops leave what a stop before would have left
pub record Rests (d e : Device) : Type 0 where
  pub adds : Adds may_read d e
  pub same : file_of 0 e ≡ file_of 0 d
  pub passes : Passes d e (LeavesNow 0 d)

-- faults rise by one where a read answers a fault, and not else
abbrev pub FaultsOf : {T E : Type 0} → Result T (Or E) → ℕ → ℕ → Type 0
FaultsOf (Ok x) old new = new ≡ old
FaultsOf (Err NoMemory) old new = new ≡ old
FaultsOf (Err (Is fault)) old new = new ≡ next_count old

-- at most so many device calls, and a fault only where the answer is one
abbrev pub CountsReads : {T E : Type 0} → ℕ → Result T (Or E) → DiskState → DiskState → Type 0
CountsReads most result old new = (old.ticks ≤ new.ticks) × (new.ticks ≤ old.ticks + most) × FaultsOf result old.faults new.faults

-- any number of device calls, and a fault only where the answer is one
abbrev pub CountsOn : {T E : Type 0} → Result T (Or E) → DiskState → DiskState → Type 0
CountsOn result old new = (old.ticks ≤ new.ticks) × FaultsOf result old.faults new.faults

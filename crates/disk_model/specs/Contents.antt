-- What a disk in memory keeps true of its fields.
use Rattle.std.specs.Prelude.{◌≡◌, ℕ, ◌^◌, ◌<◌, List, length}
use Rattle.disk_model.specs.Devices.{Device, bytes_now}
use Rattle.disk_model.specs.DiskStates.{CountsFailures}

-- both files read as the trace says, and there is a tick for each call of it, and a fault for each that failed
pub record IsReplayed (d : Device) (journal objects : List ℕ) (ticks faults : ℕ) : Type 0 where
  pub journal_reads : journal ≡ bytes_now 0 d
  pub objects_read : objects ≡ bytes_now 1 d
  pub a_tick_each : ticks ≡ length d.calls
  pub a_fault_each : CountsFailures ticks faults d
  pub ticks_fit : ticks < 2 ^ 64
  pub faults_fit : faults < 2 ^ 64

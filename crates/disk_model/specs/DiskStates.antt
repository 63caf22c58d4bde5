-- What contracts see of a disk, and what they say of it where it models its device.
use Rattle.std.specs.Prelude.{◌≡◌, ℕ, ◌-◌, ◌^◌, ◌<◌, ◌≤◌, Option, Some, None, Result, MatchResult, length}
use Rattle.disk_model.specs.Counting.{next_count}
use Rattle.disk_model.specs.Devices.{Device, failures}

-- the device, where the disk tells it, and both counts
pub record DiskState : Type 0 where
  pub modeled : Option Device
  pub ticks : ℕ
  pub faults : ℕ

-- where a device is modeled
abbrev pub IfModeled : Option Device → (Device → Type 0) → Type 0
IfModeled None P = Unit {0}
IfModeled (Some d) P = P d

-- what is told before and after stands in this relation, or nothing is told at both times
abbrev pub Both : (Device → Device → Type 0) → Option Device → Option Device → Type 0
Both R None None = Unit {0}
Both R None (Some e) = ⊥
Both R (Some d) None = ⊥
Both R (Some d) (Some e) = R d e

-- Counts of a device call: a tick more, and a fault more exactly where the answer is an error.
-- A disk whose ticks stand at their end answers only errors.
abbrev pub Counted : {T E : Type 0} → Result T E → DiskState → DiskState → Type 0
Counted result old new = (new.ticks ≡ next_count old.ticks)
    × MatchResult result (λ _. (new.faults ≡ old.faults) × (old.ticks < 2 ^ 64 - 1)) (λ _. new.faults ≡ next_count old.faults)

-- A fault was counted for each modeled call that failed, and no other as long as ticks have not come to their end, where a
-- call is a fault and is neither made nor modeled.
pub record CountsFailures (ticks faults : ℕ) (d : Device) : Type 0 where
  pub each : failures d.calls ≤ faults
  pub no_other : ticks < 2 ^ 64 - 1 → faults ≡ failures d.calls

-- what holds of each disk: counts fit, there is a tick for each modeled call, and a fault for each of these that failed
pub record IsCounted (ghost_state : DiskState) : Type 0 where
  pub ticks : ghost_state.ticks < 2 ^ 64
  pub faults : ghost_state.faults < 2 ^ 64
  pub modeled : IfModeled ghost_state.modeled (λ d. ghost_state.ticks ≡ length d.calls)
  pub failed : IfModeled ghost_state.modeled (CountsFailures ghost_state.ticks ghost_state.faults)

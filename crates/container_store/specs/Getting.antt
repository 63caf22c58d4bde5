-- What reading the bytes of an extent does to a device and its counts.
use Rattle.std.specs.Prelude.{◌≡◌, ◌-◌, ◌^◌, ◌<◌, Result, Ok, Err}
use Rattle.disk_model.specs.Counting.{next_count}
use Rattle.disk_model.specs.Devices.{Fetches, Idles}
use Rattle.disk_model.specs.DiskStates.{DiskState, Both}
use Rattle.cc_names.specs.declared.memory.Or.{Or}
use Rattle.cc_names.specs.declared.memory.Or.TheVariants.{NoMemory, Is}
use Rattle.cc_names.specs.declared.rows.Extent.{Extent}

-- one call that read it, no call, or one that failed
abbrev pub Gets : {T E : Type 0} → Extent → Result T (Or E) → DiskState → DiskState → Type 0
Gets e (Ok text) old new =
    Both (Fetches 1 e.place e.length) old.modeled new.modeled × (new.ticks ≡ next_count old.ticks) × (new.faults ≡ old.faults)
    × (old.ticks < 2 ^ 64 - 1)
Gets e (Err NoMemory) old new = new ≡ old
Gets e (Err (Is fault)) old new = Both Idles old.modeled new.modeled × (new.ticks ≡ next_count old.ticks)
    × (new.faults ≡ next_count old.faults)

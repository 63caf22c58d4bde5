-- What contracts see of a disk in memory.
use Rattle.std.specs.Prelude.{◌≡◌, ℕ, List, Some}
use Rattle.disk_model.specs.Devices.{Device, new_device, MayLeave}
use Rattle.disk_model.specs.DiskStates.{DiskState}
use Rattle.disk_model.specs.Records.{device_of}
use Rattle.disk_model.specs.declared.memory.MemoryDisk.{MemoryDisk}

-- the device that it tells
abbrev pub modeled_device : MemoryDisk → Device
modeled_device disk = device_of disk.first.journal.items disk.first.objects.items disk.trace.items disk.failed

-- what contracts see of it
abbrev pub ghost_state_of : MemoryDisk → DiskState
ghost_state_of disk = record { modeled = Some (modeled_device disk); ticks = disk.ticks; faults = disk.faults }

-- a disk that was just handed in with these files
abbrev pub handed_in : List ℕ → List ℕ → DiskState
handed_in journal objects = record { modeled = Some (new_device journal objects); ticks = 0; faults = 0 }

-- what is seen of a disk that a stop at call number k of this device left: both files as some stop there leaves them
abbrev pub IsCrash : Device → ℕ → DiskState → Type 0
IsCrash d k ghost_state = (journal : List ℕ) × (objects : List ℕ) × MayLeave 0 d k journal × MayLeave 1 d k objects
    × (ghost_state ≡ handed_in journal objects)

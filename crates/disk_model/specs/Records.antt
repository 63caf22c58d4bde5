-- The device that the trace of a disk in memory stands for.
use Rattle.std.specs.Prelude.{ℕ, zero, suc, ◌+◌, List, length, fold}
use Rattle.disk_model.specs.Devices.{Event, Measured, Fetched, Wrote, Tore, Synced, Failed, Device, new_device, with_call}
use Rattle.disk_model.specs.Devices.{bytes_now}
use Rattle.disk_model.specs.Files.{overwritten}
use Rattle.disk_model.specs.declared.calls.Call.{Call}
use Rattle.disk_model.specs.declared.calls.Call.TheVariants as calls
use Rattle.disk_model.specs.declared.calls.TracedCall.{TracedCall}

-- a device on which so many calls failed and changed nothing
abbrev pub failing : ℕ → Device → Device
failing zero d = d
failing (suc n) d = with_call Failed (failing n d)

-- what a traced call did to this device
abbrev pub event_of : Call → Device → Event
event_of (calls.Length file) d = Measured file
event_of (calls.Read file place size) d = Fetched file place size
event_of (calls.Write file place piece) d = Wrote file place (length piece) (overwritten place piece (bytes_now file d))
event_of (calls.Tear file place landed lost) d = Tore file place (length landed + lost)
    (overwritten place landed (bytes_now file d))
event_of (calls.Sync file) d = Synced file

-- a device on which a traced call was made
abbrev pub with_traced_call : Call → Device → Device
with_traced_call call d = with_call (event_of call d) d

-- a device on which a traced call was made, and those that failed before it
abbrev pub with_traced_calls : Device → TracedCall → Device
with_traced_calls d traced = with_traced_call traced.call (failing traced.failed_before d)

-- the device of a trace: what both files held at first, the traced calls, the oldest first, and the calls that failed since
abbrev pub device_of : List ℕ → List ℕ → List TracedCall → ℕ → Device
device_of journal objects trace failed = failing failed (fold with_traced_calls (new_device journal objects) trace)

-- a call that changes no bytes
abbrev pub ChangesNoBytes : Call → Type 0
ChangesNoBytes (calls.Length file) = Unit {0}
ChangesNoBytes (calls.Read file place size) = Unit {0}
ChangesNoBytes (calls.Write file place piece) = ⊥
ChangesNoBytes (calls.Tear file place landed lost) = ⊥
ChangesNoBytes (calls.Sync file) = Unit {0}

-- Which calls were added to those of a device.
use Rattle.std.specs.Prelude.{◌≡◌, Bool, true, false, not, List, ◌++◌}
use Rattle.std.specs.List.{list_all}
use Rattle.disk_model.specs.Devices.{Device, Event, Measured, Fetched, Failed, file_of}

-- whether a call read: it asked a length, or read bytes
abbrev pub is_reading_call : Event → Bool
is_reading_call (Measured file) = true
is_reading_call (Fetched file place size) = true
is_reading_call event = false

-- whether a call is one of those that read, or one of them that failed
abbrev pub may_read : Event → Bool
may_read Failed = true
may_read event = is_reading_call event

-- whether a call is none of those that read
abbrev pub may_write : Event → Bool
may_write event = not (is_reading_call event)

-- Calls of this kind were added to those of a device, and no others.
pub record Adds (kind : Event → Bool) (d e : Device) : Type 0 where
  pub more : List Event
  pub calls : e.calls ≡ more ++ d.calls
  pub kinds : list_all kind more ≡ true

-- The journal was written: no call read, and the file of objects is as it was.
pub record WritesOn (d e : Device) : Type 0 where
  pub adds : Adds may_write d e
  pub objects : file_of 1 e ≡ file_of 1 d

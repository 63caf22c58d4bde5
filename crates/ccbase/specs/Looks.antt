-- The calls of a look at FILE.
use Rattle.std.specs.Prelude.{Bool, true, false, ◌==◌}
use Rattle.disk_model.specs.Devices.{Event, Measured, Fetched, Failed}

-- whether a call failed, or asked the length of the journal, or read bytes of it
abbrev pub may_look : Event → Bool
may_look Failed = true
may_look (Measured file) = file == 0
may_look (Fetched file place size) = file == 0
may_look event = false

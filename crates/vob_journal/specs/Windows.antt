-- The piece of a journal that is held in memory while it is read.
use Rattle.std.specs.Prelude.{◌≡◌, ◌≤◌, ◌+◌, ℕ, Option, Some, None, length, take, drop}
use Rattle.disk_model.specs.Devices.{Device, bytes_now}
use Rattle.disk_model.specs.DiskStates.{IfModeled}
use Rattle.vob_journal.specs.declared.window.Window.{Window}

-- a window shows the journal from its start on
pub record Shows (window : Window) (d : Device) : Type 0 where
  pub within : window.start + length window.bytes.items ≤ length (bytes_now 0 d)
  pub same : window.bytes.items ≡ take (length window.bytes.items) (drop window.start (bytes_now 0 d))

-- the place where the window at hand ends; 0 where there is none
abbrev pub reach_of : Option Window → ℕ
reach_of None = 0
reach_of (Some window) = window.start + length window.bytes.items

-- where there is a window, it begins at this place or before
abbrev pub StartsBy : Option Window → ℕ → Type 0
StartsBy None place = Unit {0}
StartsBy (Some window) place = window.start ≤ place

-- where there is a window and a device is modeled, the window shows it
abbrev pub IfShows : Option Window → Option Device → Type 0
IfShows None modeled = Unit {0}
IfShows (Some window) modeled = IfModeled modeled (Shows window)

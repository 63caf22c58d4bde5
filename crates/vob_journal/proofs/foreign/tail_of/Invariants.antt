use Rattle.std.proofs.Common.{◌≡◌, ◌≤◌, ◌-◌, drop}
use Rattle.disk_model.specs.Devices.{bytes_now}
use Rattle.disk_model.specs.DiskStates.{IfModeled, Both}
use Rattle.vob_journal.specs.Foreign.{behind}
use Rattle.vob_journal.specs.Pieces.{ReadsTo}
use Rattle.vob_journal.specs.Reads.{Rests}
use Rattle.vob_journal.specs.Windows.{IfShows, StartsBy, reach_of}
use Rattle.vob_journal.proofs.foreign.tail_of.Given as goal

abbrev pub invariant-frames : goal.invariant-frames
invariant-frames g l = record {
  within : l.tail ≤ l.size;
  starts : StartsBy l.window l.tail;
  shows : IfShows l.window (g.D.Disk.ghost_state l.disk).modeled;
  rests : Both Rests (g.D.Disk.ghost_state l.fn.disk).modeled (g.D.Disk.ghost_state l.disk).modeled;
  so_far : IfModeled (g.D.Disk.ghost_state l.fn.disk).modeled (λ d. behind (bytes_now 0 d)
      ≡ behind (drop l.tail (bytes_now 0 d)));
  read : Both (ReadsTo l.tail (reach_of l.window)) (g.D.Disk.ghost_state l.fn.disk).modeled (g.D.Disk.ghost_state l.disk).modeled;
  ticks : (g.D.Disk.ghost_state l.fn.disk).ticks ≤ (g.D.Disk.ghost_state l.disk).ticks;
  faults : (g.D.Disk.ghost_state l.disk).faults ≡ (g.D.Disk.ghost_state l.fn.disk).faults;
}

abbrev pub decreases-frames : goal.decreases-frames
decreases-frames g l = l.size - l.tail

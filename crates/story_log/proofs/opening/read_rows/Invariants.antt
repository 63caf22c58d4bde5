use Rattle.std.proofs.Common.{◌≡◌, ◌-◌, false, length}
use Rattle.base_model.specs.Fits.{row_limit}
use Rattle.disk_model.specs.DiskStates.{Both}
use Rattle.vob_journal.specs.Pieces.{IsReadForth}
use Rattle.vob_journal.specs.Shown.{frames_read}
use Rattle.story_log.specs.Bases.Reading.{OnlyReads, IsReadSoFar}
use Rattle.story_log.proofs.opening.read_rows.Given as goal

abbrev pub invariant-frames : goal.invariant-frames
invariant-frames g l = record {
  reads : OnlyReads g.D.Disk.ghost_state l.initial.journal l.journal;
  forth : Both (IsReadForth (frames_read l.initial.journal) l.initial.journal.reach (frames_read l.journal) l.journal.reach)
      (g.D.Disk.ghost_state l.initial.journal.disk).modeled (g.D.Disk.ghost_state l.journal.disk).modeled;
  unended : l.journal.ended ≡ false;
  so_far : IsReadSoFar g.D.Disk.ghost_state l.rows.base l.journal;
  faultless : (g.D.Disk.ghost_state l.journal.disk).faults ≡ (g.D.Disk.ghost_state l.initial.journal.disk).faults;
}

abbrev pub decreases-frames : goal.decreases-frames
decreases-frames g l = row_limit - length l.rows.base

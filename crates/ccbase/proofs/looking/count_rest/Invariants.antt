-- what reading leaves, and how many rows were read
use Rattle.std.proofs.Common.{◌≡◌, ◌+◌, length}
use Rattle.disk_model.specs.DiskStates.{Both, IfModeled}
use Rattle.vob_journal.specs.Added.{Adds}
use Rattle.vob_journal.specs.Reads.{SameFiles}
use Rattle.ccbase.specs.Looks.{may_look}
use Rattle.ccbase.proofs.looking.count_rest.Given as goal

abbrev pub invariant-rows : goal.invariant-rows
invariant-rows g l = record {
  files : Both SameFiles (g.D.Disk.ghost_state l.initial.journal.disk).modeled (g.D.Disk.ghost_state l.journal.disk).modeled;
  adds : Both (Adds may_look) (g.D.Disk.ghost_state l.initial.journal.disk).modeled
      (g.D.Disk.ghost_state l.journal.disk).modeled;
  faults : (g.D.Disk.ghost_state l.journal.disk).faults ≡ (g.D.Disk.ghost_state l.initial.journal.disk).faults;
  read : IfModeled (g.D.Disk.ghost_state l.initial.journal.disk).modeled
      (λ _. l.rows + length l.journal.rest ≡ length l.initial.journal.rest);
}

-- a journal that is read on leaves both files as they were, and its rows are counted
use Rattle.std.proofs.Common.{Ok, refl, length, ◌∙◌}
use Rattle.cc_names.specs.declared.memory.Or.{Or}
use Rattle.disk_model.specs.declared.disk.DiskFault.{DiskFault}
use Rattle.vob_journal.proofs.Staying.{modeled_stay, modeled_then}
use Rattle.ccbase.proofs.Reading.{adds_along, adds_next, adds_stay, adds_until, all_read, none_read, one_read}
use Rattle.ccbase.proofs.looking.count_rest.Goals as goal

pub rows-init : goal.rows-init
rows-init g c =
    let modeled = (g.D.Disk.ghost_state c.args.journal.now.disk).modeled in
    record {
      files = modeled_stay modeled;
      adds = adds_stay modeled;
      faults = refl;
      read = none_read modeled (length c.args.journal.now.rest);
    }

pub rows-preserved : goal.rows-preserved
rows-preserved g c = record {
  files = modeled_then _ _ _ c.rows.invariant.files c.in-Ok-Some.ensures.files;
  adds = adds_along _ _ _ c.rows.invariant.adds
      (adds_next {E = Or DiskFault} (Ok c.in-Ok-Some.field-0) g.D.Disk.ghost_state c.rows.journal c.next.new.self
      c.in-Ok-Some.ensures.forth);
  faults = c.in-Ok-Some.ensures.counts.2 ∙ c.rows.invariant.faults;
  read = one_read (g.D.Disk.ghost_state c.args.journal.now.disk).modeled (g.D.Disk.ghost_state c.rows.journal.disk).modeled
      c.rows.rows (length c.args.journal.now.rest) c.rows.journal.rest c.next.new.self.rest c.in-Ok-Some.field-0
      c.in-Ok-Some.field-0-0 c.in-Ok-Some.field-0-is c.rows.invariant.files c.rows.invariant.read c.in-Ok-Some.ensures.gives;
}

pub returns-in-Ok-None-clause-rows : goal.returns-in-Ok-None-clause-rows
returns-in-Ok-None-clause-rows g c =
    all_read (g.D.Disk.ghost_state c.args.journal.now.disk).modeled (g.D.Disk.ghost_state c.rows.journal.disk).modeled
    c.rows.rows (length c.args.journal.now.rest) c.rows.journal.rest c.next.new.self.rest c.in-Ok-None.field-0
    c.in-Ok-None.field-0-is c.rows.invariant.files c.rows.invariant.read c.in-Ok-None.ensures.gives

pub returns-in-Ok-None-clause-files : goal.returns-in-Ok-None-clause-files
returns-in-Ok-None-clause-files g c = modeled_then _ _ _ c.rows.invariant.files c.in-Ok-None.ensures.files

pub returns-in-Ok-None-clause-adds : goal.returns-in-Ok-None-clause-adds
returns-in-Ok-None-clause-adds g c =
    adds_along _ _ _ c.rows.invariant.adds
    (adds_next {E = Or DiskFault} (Ok c.in-Ok-None.field-0) g.D.Disk.ghost_state c.rows.journal c.next.new.self
    c.in-Ok-None.ensures.forth)

pub returns-in-Err-NoMemory-clause-adds : goal.returns-in-Err-NoMemory-clause-adds
returns-in-Err-NoMemory-clause-adds g c =
    adds_along _ _ _ c.rows.invariant.adds (adds_until _ _ _ _ _ c.in-Err-NoMemory.ensures.forth)

pub returns-in-Err-Is-clause-adds : goal.returns-in-Err-Is-clause-adds
returns-in-Err-Is-clause-adds g c =
    adds_along _ _ _ c.rows.invariant.adds (adds_until _ _ _ _ _ c.in-Err-Is.ensures.forth)

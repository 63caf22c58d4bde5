-- a journal that is opened and read leaves both files as they were
use Rattle.std.proofs.Common.{◌≡◌, sym, subst}
use Rattle.std.specs.Prelude.{MatchResult}
use Rattle.disk_model.specs.Counting.{next_count}
use Rattle.disk_model.specs.DiskStates.{Both}
use Rattle.vob_journal.specs.Added.{Adds}
use Rattle.vob_journal.specs.Reads.{SameFiles}
use Rattle.vob_journal.proofs.Staying.{modeled_then}
use Rattle.ccbase.specs.Looks.{may_look}
use Rattle.ccbase.proofs.Reading.{adds_along, adds_idle, adds_measured, faults_along, rows_counted}
use Rattle.ccbase.proofs.looking.count_rows.Goals as goal

pub returns-in-Ok-clause-files : goal.returns-in-Ok-clause-files
returns-in-Ok-clause-files g c =
    let old = (g.D.Disk.ghost_state c.args.disk).modeled in
    subst (λ disk. Both SameFiles old (g.D.Disk.ghost_state disk).modeled) (sym c.into_disk.ensures)
    (modeled_then _ _ _ c.in-Ok.ensures.files c.count_rest-rows.ensures.files)

pub returns-in-Ok-clause-adds : goal.returns-in-Ok-clause-adds
returns-in-Ok-clause-adds g c =
    let old = (g.D.Disk.ghost_state c.args.disk).modeled in
    subst (λ disk. Both (Adds may_look) old (g.D.Disk.ghost_state disk).modeled) (sym c.into_disk.ensures)
    (adds_along _ _ _ (adds_measured _ _ c.in-Ok.ensures.modeled) c.count_rest-rows.ensures.adds)

pub returns-in-Ok-clause-rows : goal.returns-in-Ok-clause-rows
returns-in-Ok-clause-rows g c =
    rows_counted c.count_rest-rows.result (g.D.Disk.ghost_state c.args.disk).modeled
    (g.D.Disk.ghost_state c.in-Ok.journal.disk).modeled c.in-Ok.journal.list c.in-Ok.journal.rest c.in-Ok.ensures.files
    c.in-Ok.ensures.list c.in-Ok.ensures.begins.0 c.count_rest-rows.ensures.rows

pub returns-in-Ok-clause-faults : goal.returns-in-Ok-clause-faults
returns-in-Ok-clause-faults g c =
    let state = g.D.Disk.ghost_state in
    faults_along c.count_rest-rows.result (state c.args.disk).faults (state c.in-Ok.journal.disk).faults
    (state c.into_disk.result).faults c.in-Ok.ensures.counts.1 (subst (λ disk. MatchResult c.count_rest-rows.result
    (λ _. (state disk).faults ≡ (state c.in-Ok.journal.disk).faults)
    (λ _. (state disk).faults ≡ next_count (state c.in-Ok.journal.disk).faults))
    (sym c.into_disk.ensures) c.count_rest-rows.ensures.faults)

pub returns-in-Err-clause-adds : goal.returns-in-Err-clause-adds
returns-in-Err-clause-adds g c = adds_idle _ _ c.in-Err.ensures.modeled

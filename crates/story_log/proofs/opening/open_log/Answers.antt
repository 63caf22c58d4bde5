-- a base is opened, or is not
use Rattle.std.proofs.Common.{◌≡◌, length, sym, ◌∙◌, ap, subst, arith}
use Rattle.disk_model.specs.Devices.{Measures}
use Rattle.disk_model.specs.DiskStates.{Both, DiskState}
use Rattle.vob_journal.specs.Pieces.{ReadsOnce}
use Rattle.vob_journal.specs.Shown.{Shown, frames_read}
use Rattle.vob_journal.proofs.Pieces.{modeled_once_idle}
use Rattle.story_log.specs.Logging.Logs.{Logged}
use Rattle.story_log.specs.Story.Handed.{handed_disk}
use Rattle.story_log.specs.Bases.Opening.{FailsToOpen}
use Rattle.story_log.specs.Bases.Reading.{IsReadBy, IsReadOn, ReadsOnceBy}
use Rattle.story_log.specs.declared.opening.OpenCause.{OpenCause}
use Rattle.story_log.proofs.Bases.ReadFrames.{once_by, once_on}
use Rattle.story_log.proofs.Bases.OpenedBases.{new_on, fails_at_once, fails_to_open, keeps_first, files_first}
use Rattle.story_log.proofs.Bases.OpenedBases.{stops_first, journal_synced, opened_backed, is_opened}
use Rattle.story_log.proofs.opening.open_log.Goals as goal

pub open-requires : goal.open-requires
open-requires g c = journal_synced (g.D.Disk.ghost_state c.args.disk).modeled c.requires

-- nothing was read yet
none_read : {D : Type 0} (opened : Shown D) → opened.rest ≡ opened.list → frames_read opened ≡ 0
none_read opened is = omega (arith, ap length is)

-- the calls of an opening, where the journal's length was told
once_since : {D : Type 0} (ghost_state : D → DiskState) (first : DiskState) (opened read : Shown D) → opened.rest ≡ opened.list
    → opened.reach ≡ 0 → Both (Measures 0) first.modeled (ghost_state opened.disk).modeled
    → Both (IsReadOn (frames_read opened) opened.reach) (ghost_state opened.disk).modeled (ghost_state read.disk).modeled
    → Both ReadsOnce first.modeled (ghost_state read.disk).modeled
once_since ghost_state first opened read rest reach made on =
    once_on first.modeled (ghost_state opened.disk).modeled (ghost_state read.disk).modeled made
    (subst (λ n. Both (IsReadOn 0 n) (ghost_state opened.disk).modeled (ghost_state read.disk).modeled) reach
    (subst (λ n. Both (IsReadOn n opened.reach) (ghost_state opened.disk).modeled (ghost_state read.disk).modeled)
    (none_read opened rest) on))

stopped_since : {D : Type 0} (ghost_state : D → DiskState) (first : DiskState) (cause : OpenCause) (opened read : Shown D)
    → opened.rest ≡ opened.list
    → opened.reach ≡ 0 → Both (Measures 0) first.modeled (ghost_state opened.disk).modeled
    → Both (IsReadBy cause (frames_read opened) opened.reach) (ghost_state opened.disk).modeled (ghost_state read.disk).modeled
    → Both (ReadsOnceBy cause) first.modeled (ghost_state read.disk).modeled
stopped_since ghost_state first cause opened read rest reach made by =
    once_by cause first.modeled (ghost_state opened.disk).modeled (ghost_state read.disk).modeled made
    (subst (λ n. Both (IsReadBy cause 0 n) (ghost_state opened.disk).modeled (ghost_state read.disk).modeled) reach
    (subst (λ n. Both (IsReadBy cause n opened.reach) (ghost_state opened.disk).modeled (ghost_state read.disk).modeled)
    (none_read opened rest) by))

pub returns-in-Err-clause-err : goal.returns-in-Err-clause-err
returns-in-Err-clause-err g c =
    fails_at_once (g.D.Disk.ghost_state c.args.disk) (g.D.Disk.ghost_state c.in-Err.disk) (g.met.D.Disk.counted c.args.disk)
    (g.met.D.Disk.counted c.in-Err.disk) c.requires c.in-Err.ensures.modeled c.in-Err.ensures.files c.in-Err.ensures.counts

pub returns-in-Err-read_rows-clause-err : goal.returns-in-Err-read_rows-clause-err
returns-in-Err-read_rows-clause-err g c =
    let ghost_state = g.D.Disk.ghost_state in
    let first = ghost_state c.args.disk in
    let opened = c.in-Ok.journal in
    let read = c.read_rows.new.journal in
    let begins = c.in-Ok.ensures.begins in
    let new = new_on ghost_state first opened c.in-Ok.ensures.list begins.4 begins.1 c.in-Ok.ensures.moves c.in-Ok.ensures.files
    c.in-Ok.ensures.counts in
    subst (λ disk. FailsToOpen first c.in-Err-read_rows.cause (ghost_state disk)) (sym c.into_disk.ensures)
    (fails_to_open first (ghost_state read.disk) c.in-Err-read_rows.cause (g.met.D.Disk.counted c.args.disk) c.requires
    (keeps_first ghost_state first opened read new c.in-Err-read_rows.ensures.reads)
    (files_first ghost_state first opened read new c.in-Err-read_rows.ensures.reads)
    (stops_first ghost_state first c.in-Err-read_rows.cause opened read new c.in-Err-read_rows.ensures.err))

pub open-requires-2 : goal.open-requires-2
open-requires-2 g c =
    let ghost_state = g.D.Disk.ghost_state in
    let first = ghost_state c.args.disk in
    let opened = c.in-Ok.journal in
    let begins = c.in-Ok.ensures.begins in
    let new = new_on ghost_state first opened c.in-Ok.ensures.list begins.4 begins.1 c.in-Ok.ensures.moves c.in-Ok.ensures.files
    c.in-Ok.ensures.counts in
    let rows = c.in-Ok-read_rows.ensures in
    opened_backed ghost_state first (handed_disk c.counts-handed.result g.D.Disk.tells) c.in-Ok-read_rows.rows.base opened
    c.read_rows.new.journal
    (g.met.D.Disk.counted c.args.disk) c.counts-handed.ensures.ticks c.counts-handed.ensures.faults
    (sym (g.met.D.Disk.as_typed c.args.disk)) c.requires new rows.reads rows.faultless rows.ok

pub returns-clause-ok : goal.returns-clause-ok
returns-clause-ok g c =
    let ghost_state = g.D.Disk.ghost_state in
    let first = ghost_state c.args.disk in
    let opened = c.in-Ok.journal in
    let begins = c.in-Ok.ensures.begins in
    let new = new_on ghost_state first opened c.in-Ok.ensures.list begins.4 begins.1 c.in-Ok.ensures.moves c.in-Ok.ensures.files
    c.in-Ok.ensures.counts in
    let rows = c.in-Ok-read_rows.ensures in
    is_opened ghost_state first (handed_disk c.counts-handed.result g.D.Disk.tells) c.in-Ok-read_rows.rows.base opened
    c.read_rows.new.journal
    (g.met.D.Disk.counted c.args.disk) c.counts-handed.ensures.ticks c.counts-handed.ensures.faults
    (sym (g.met.D.Disk.as_typed c.args.disk)) c.requires new rows.reads rows.faultless rows.ok c.open-2.result
    c.open-2.ensures
    (g.met.D.Disk.counted c.read_rows.new.journal.disk) rows.tail

pub returns-in-Err-clause-once : goal.returns-in-Err-clause-once
returns-in-Err-clause-once g c = modeled_once_idle _ _ c.in-Err.ensures.modeled

pub returns-in-Err-read_rows-clause-once : goal.returns-in-Err-read_rows-clause-once
returns-in-Err-read_rows-clause-once g c =
    let ghost_state = g.D.Disk.ghost_state in
    let first = ghost_state c.args.disk in
    let begins = c.in-Ok.ensures.begins in
    subst (λ disk. Both (ReadsOnceBy c.in-Err-read_rows.cause) first.modeled (ghost_state disk).modeled) (sym c.into_disk.ensures)
    (stopped_since ghost_state first c.in-Err-read_rows.cause c.in-Ok.journal c.read_rows.new.journal begins.0 begins.5
    c.in-Ok.ensures.modeled c.in-Err-read_rows.ensures.until)

pub returns-clause-once : goal.returns-clause-once
returns-clause-once g c =
    let ghost_state = g.D.Disk.ghost_state in
    let first = ghost_state c.args.disk in
    let begins = c.in-Ok.ensures.begins in
    subst (λ (s : DiskState). Both ReadsOnce first.modeled s.modeled) (sym (ap (λ (l : Logged). l.ghost_state)
    c.open-2.ensures))
    (once_since ghost_state first c.in-Ok.journal c.read_rows.new.journal begins.0 begins.5 c.in-Ok.ensures.modeled
    c.in-Ok-read_rows.ensures.forth)

-- the look leaves both files as they were
use Rattle.std.proofs.Common.{◌≡◌, ap, sym, ◌∙◌}
use Rattle.disk_model.specs.Devices.{bytes_now, file_of}
use Rattle.disk_model.specs.Files.{File, stable}
use Rattle.vob_journal.specs.Reads.{SameFiles}
use Rattle.vob_journal.proofs.Telling.{modeled_from}
use Rattle.ccbase.proofs.Reading.{adds_along, adds_behind}
use Rattle.ccbase.proofs.looking.looked_at.Goals as goal

pub count_rows-disk-requires : goal.count_rows-disk-requires
count_rows-disk-requires g c =
    modeled_from SameFiles (λ d. file_of 0 d ≡ stable (bytes_now 0 d)) (λ e. file_of 0 e ≡ stable (bytes_now 0 e)) _ _
    (λ d e is same. same.journal ∙ is ∙ ap (λ (file : File). stable file.bytes) (sym same.journal)) c.requires
    c.foreign_bytes.ensures.files

pub returns-in-Ok-clause-adds : goal.returns-in-Ok-clause-adds
returns-in-Ok-clause-adds g c =
    adds_along _ _ _ (adds_behind _ _ c.foreign_bytes.ensures.looks) c.count_rows-disk.ensures.adds

pub returns-in-Ok-eq0-clause-adds : goal.returns-in-Ok-eq0-clause-adds
returns-in-Ok-eq0-clause-adds g c = adds_behind _ _ c.foreign_bytes.ensures.looks

pub returns-in-Err-NoMemory-clause-adds : goal.returns-in-Err-NoMemory-clause-adds
returns-in-Err-NoMemory-clause-adds g c = adds_behind _ _ c.foreign_bytes.ensures.looks

pub returns-in-Err-Is-clause-adds : goal.returns-in-Err-Is-clause-adds
returns-in-Err-Is-clause-adds g c = adds_behind _ _ c.foreign_bytes.ensures.looks

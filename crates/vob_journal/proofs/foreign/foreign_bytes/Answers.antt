use Rattle.disk_model.specs.Devices.{Measures, Idles}
use Rattle.vob_journal.specs.Reads.{Rests}
use Rattle.vob_journal.proofs.Journals.{measured_rests}
use Rattle.vob_journal.proofs.Looking.{modeled_looks_none, modeled_looks_on, modeled_looks_until}
use Rattle.vob_journal.proofs.Staying.{idle_rests, modeled_rest_on}
use Rattle.vob_journal.proofs.Telling.{both_map}
use Rattle.vob_journal.proofs.foreign.foreign_bytes.Goals as goal

pub returns-in-Err-clause-rests : goal.returns-in-Err-clause-rests
returns-in-Err-clause-rests g c = both_map Idles Rests _ _ idle_rests c.in-Err.ensures.modeled

pub returns-in-Ok-tail_of-clause-rests : goal.returns-in-Ok-tail_of-clause-rests
returns-in-Ok-tail_of-clause-rests g c =
    modeled_rest_on _ _ _ (both_map (Measures 0) Rests _ _ measured_rests c.in-Ok.ensures.modeled)
    (modeled_rest_on _ _ _ c.in-Ok-tail_of.ensures.rests c.foreign_at.ensures.rests)

pub returns-in-Err-tail_of-clause-rests : goal.returns-in-Err-tail_of-clause-rests
returns-in-Err-tail_of-clause-rests g c =
    modeled_rest_on _ _ _ (both_map (Measures 0) Rests _ _ measured_rests c.in-Ok.ensures.modeled) c.in-Err-tail_of.ensures.rests

pub returns-in-Err-clause-looks : goal.returns-in-Err-clause-looks
returns-in-Err-clause-looks g c = modeled_looks_none _ _ c.in-Err.ensures.modeled

pub returns-in-Ok-tail_of-clause-looks : goal.returns-in-Ok-tail_of-clause-looks
returns-in-Ok-tail_of-clause-looks g c =
    modeled_looks_on c.in-Ok-tail_of.tail c.in-Ok.size _ _ _ _ c.in-Ok-tail_of.ensures.within c.in-Ok.ensures.length
    c.in-Ok-tail_of.ensures.behind c.in-Ok.ensures.modeled c.in-Ok-tail_of.ensures.forth c.foreign_at.ensures.piece

pub returns-in-Err-tail_of-clause-looks : goal.returns-in-Err-tail_of-clause-looks
returns-in-Err-tail_of-clause-looks g c =
    modeled_looks_until _ _ _ c.in-Ok.ensures.modeled c.in-Err-tail_of.ensures.until

-- What was found is damaged nowhere where a base was opened.
use Rattle.disk_model.specs.DiskStates.{DiskState, IfModeled}
use Rattle.base_model.specs.Rows.{Base}
use Rattle.vob_journal.proofs.Telling.{modeled_map}
use Rattle.story_log.specs.Bases.Opening.{IsBaseOn}
use Rattle.story_log.specs.Story.Handed.{Handed}
use Rattle.story_log.specs.Stored.Damaged.{IsUndamaged}
use Rattle.story_log.specs.Stored.Opened.{IsOpenedAs}
use Rattle.story_log.specs.Stored.Stops.{found_on}
use Rattle.story_log.proofs.Stored.Damaged.{stored_undamaged}

pub undamaged_on : (old : DiskState) (base : Base) (handed : Handed) → IsBaseOn old base handed
    → IfModeled old.modeled (λ d. IsUndamaged (found_on d))
undamaged_on old base handed on =
    modeled_map (λ d. IsOpenedAs (found_on d) base) (λ d. IsUndamaged (found_on d)) old.modeled
    (λ d is. stored_undamaged (found_on d) is.stored is.spelled is.formed is.good) on.found

use Rattle.std.proofs.Common.{refl, arith}
use Rattle.vob_journal.proofs.Journals.{opened_reading, opened_list, opened_rest, no_leftover, opened_moves}
use Rattle.vob_journal.proofs.Staying.{modeled_measured, modeled_idle}
use Rattle.vob_journal.proofs.journal.Journal.open.Goals as goal

pub invariant_of-result : goal.invariant_of-result
invariant_of-result g c = (
  omega arith,
  c.in-Ok.ensures.most,
  (tt, tt),
  opened_reading c.in-Ok.size _ _ c.requires c.in-Ok.ensures.length
      c.in-Ok.ensures.modeled,
)

pub returns-in-Ok-clause-list : goal.returns-in-Ok-clause-list
returns-in-Ok-clause-list g c = opened_list _ _ c.in-Ok.ensures.modeled

pub returns-in-Ok-clause-begins : goal.returns-in-Ok-clause-begins
returns-in-Ok-clause-begins g c = (opened_rest _, no_leftover _ _ _, refl, refl, refl, refl)

pub returns-in-Ok-clause-moves : goal.returns-in-Ok-clause-moves
returns-in-Ok-clause-moves g c = opened_moves _ _ c.requires c.in-Ok.ensures.modeled

pub returns-in-Ok-clause-files : goal.returns-in-Ok-clause-files
returns-in-Ok-clause-files g c = modeled_measured _ _ c.in-Ok.ensures.modeled

pub returns-in-Err-clause-files : goal.returns-in-Err-clause-files
returns-in-Err-clause-files g c = modeled_idle _ _ c.in-Err.ensures.modeled

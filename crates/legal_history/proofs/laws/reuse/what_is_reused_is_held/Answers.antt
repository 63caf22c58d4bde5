use Rattle.legal_history.proofs.laws.reuse.what_is_reused_is_held.Goals as goal
use Rattle.legal_history.proofs.Reuse.KeptObjects.{kept_held}
use Rattle.legal_history.proofs.Reuse.WinkedObjects.{winked_held}

pub returns-clause-kept : goal.returns-clause-kept
returns-clause-kept c = kept_held

pub returns-clause-winked : goal.returns-clause-winked
returns-clause-winked c = winked_held

use Rattle.legal_history.proofs.laws.taken.what_is_found_after_the_start_is_not_held.Goals as goal
use Rattle.legal_history.proofs.Reuse.HeldBefore.{found_is_not_held}

pub returns : goal.returns
returns c = found_is_not_held

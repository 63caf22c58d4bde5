use Rattle.legal_history.proofs.laws.decisions.a_decided_row_fits.Goals as goal
use Rattle.legal_history.proofs.Decisions.DecidedFits.{decided_fits}

pub returns : goal.returns
returns c = λ s command deed base h. decided_fits s command base deed h

use Rattle.legal_history.proofs.laws.records.a_covered_record_runs_again.Goals as goal
use Rattle.legal_history.proofs.Reuse.CoveredRuns.{covered_runs_again}

pub returns : goal.returns
returns c = covered_runs_again

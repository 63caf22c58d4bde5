use Rattle.legal_history.proofs.laws.reuse.a_kept_object_agrees.Goals as goal
use Rattle.legal_history.proofs.Reuse.TakenObjects.{kept_agrees, kept_lives}

pub returns-clause-agrees : goal.returns-clause-agrees
returns-clause-agrees c = kept_agrees

pub returns-clause-lives : goal.returns-clause-lives
returns-clause-lives c = kept_lives

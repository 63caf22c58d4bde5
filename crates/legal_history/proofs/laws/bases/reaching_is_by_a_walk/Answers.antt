use Rattle.legal_history.proofs.laws.bases.reaching_is_by_a_walk.Goals as goal
use Rattle.legal_history.proofs.Queries.Walks.{reached_by_walk}
use Rattle.legal_history.proofs.Queries.WalksFound.{walk_is_found}

pub returns-clause-walk : goal.returns-clause-walk
returns-clause-walk c = reached_by_walk

pub returns-clause-found : goal.returns-clause-found
returns-clause-found c = walk_is_found

use Rattle.legal_history.proofs.laws.later.what_a_unit_came_to_stays.Goals as goal
use Rattle.legal_history.proofs.Stories.LaterBuilds.{same_build}

pub returns-clause-outcome : goal.returns-clause-outcome
returns-clause-outcome c = λ prefix rest lane old new n h. (same_build prefix rest lane old new h).outcomes n

pub returns-clause-start : goal.returns-clause-start
returns-clause-start c = λ prefix rest lane old new n h. (same_build prefix rest lane old new h).begun n

use Rattle.legal_history.proofs.laws.later.an_active_build_is_the_same.Goals as goal
use Rattle.legal_history.proofs.Stories.LaterBuilds.{same_build}

pub returns : goal.returns
returns c = same_build

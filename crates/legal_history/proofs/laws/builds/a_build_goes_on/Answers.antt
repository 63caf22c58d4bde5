use Rattle.legal_history.proofs.laws.builds.a_build_goes_on.Goals as goal
use Rattle.legal_history.proofs.Stories.Goes.{step_goes}

pub returns : goal.returns
returns c = step_goes

use Rattle.legal_history.proofs.laws.builds.a_build_is_left_by_its_end.Goals as goal
use Rattle.legal_history.proofs.Stories.Leaving.{is_left}

pub returns : goal.returns
returns c = is_left

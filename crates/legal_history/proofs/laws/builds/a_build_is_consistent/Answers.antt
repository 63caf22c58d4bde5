use Rattle.legal_history.proofs.laws.builds.a_build_is_consistent.Goals as goal
use Rattle.legal_history.proofs.Stories.ConsistentStories.{build_is_consistent}

pub returns : goal.returns
returns c = build_is_consistent

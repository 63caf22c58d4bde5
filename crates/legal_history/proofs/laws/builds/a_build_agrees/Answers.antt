use Rattle.legal_history.proofs.laws.builds.a_build_agrees.Goals as goal
use Rattle.legal_history.proofs.Reuse.AgreedStories.{story_agrees_so_far}

pub returns : goal.returns
returns c = story_agrees_so_far

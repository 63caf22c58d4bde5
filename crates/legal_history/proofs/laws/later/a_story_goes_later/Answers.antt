use Rattle.legal_history.proofs.laws.later.a_story_goes_later.Goals as goal
use Rattle.legal_history.proofs.Stories.LaterStories.{story_later}

pub returns : goal.returns
returns c = story_later

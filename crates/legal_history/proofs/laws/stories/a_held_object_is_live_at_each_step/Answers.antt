use Rattle.legal_history.proofs.laws.stories.a_held_object_is_live_at_each_step.Goals as goal
use Rattle.legal_history.proofs.Stories.Scrubs.{story_held_is_live}

pub returns : goal.returns
returns c = story_held_is_live

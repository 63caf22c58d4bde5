use Rattle.legal_history.proofs.laws.stories.a_scrub_of_a_story_lists_what_is_due.Goals as goal
use Rattle.legal_history.proofs.Stories.Scrubs.{story_scrubs}

pub returns : goal.returns
returns c = story_scrubs

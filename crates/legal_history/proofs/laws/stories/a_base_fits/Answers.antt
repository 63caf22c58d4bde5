use Rattle.legal_history.proofs.laws.stories.a_base_fits.Goals as goal
use Rattle.legal_history.proofs.Stories.ConsistentStories.{base_fits}

pub returns : goal.returns
returns c = base_fits

use Rattle.legal_history.proofs.laws.stories.ticks_rise.Goals as goal
use Rattle.legal_history.proofs.Stories.Rising.{ends_rise}

pub returns : goal.returns
returns c = ends_rise

use Rattle.legal_history.proofs.laws.stories.rows_stay_within_the_limit.Goals as goal
use Rattle.legal_history.proofs.Stories.Room.{within_limit}

pub returns : goal.returns
returns c = within_limit

use Rattle.legal_history.proofs.laws.later.a_finished_lane_stays_finished.Goals as goal
use Rattle.legal_history.proofs.Stories.LaterLanes.{stays_finished}

pub returns : goal.returns
returns c = stays_finished

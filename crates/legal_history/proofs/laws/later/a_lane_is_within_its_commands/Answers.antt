use Rattle.legal_history.proofs.laws.later.a_lane_is_within_its_commands.Goals as goal
use Rattle.legal_history.proofs.Stories.LaterLanes.{lane_within}

pub returns : goal.returns
returns c = lane_within

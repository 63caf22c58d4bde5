use Rattle.legal_history.proofs.laws.stops.a_stop_leaves_a_base.Goals as goal
use Rattle.legal_history.proofs.Reuse.LeftByStops.{stop_leaves_base}

pub returns : goal.returns
returns c = stop_leaves_base

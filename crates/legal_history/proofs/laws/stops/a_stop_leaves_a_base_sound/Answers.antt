use Rattle.legal_history.proofs.laws.stops.a_stop_leaves_a_base_sound.Goals as goal
use Rattle.legal_history.proofs.Reuse.LeftByStops.{stop_leaves_sound, fault_leaves_sound}

pub returns-clause-stop : goal.returns-clause-stop
returns-clause-stop c = stop_leaves_sound

pub returns-clause-fault : goal.returns-clause-fault
returns-clause-fault c = fault_leaves_sound

use Rattle.legal_history.proofs.laws.bases.a_held_object_is_live.Goals as goal
use Rattle.base_model.proofs.HeldObjects.{held_is_live}

pub returns : goal.returns
returns c = held_is_live

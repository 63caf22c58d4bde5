use Rattle.legal_history.proofs.laws.bases.a_scrub_takes_no_held_object.Goals as goal
use Rattle.base_model.proofs.HeldObjects.{scrub_takes}

pub returns : goal.returns
returns c = scrub_takes

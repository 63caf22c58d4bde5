use Rattle.legal_history.proofs.laws.bases.a_checkout_is_made_from_a_version.Goals as goal
use Rattle.base_model.proofs.Origins.{out_is_version}

pub returns : goal.returns
returns c = out_is_version

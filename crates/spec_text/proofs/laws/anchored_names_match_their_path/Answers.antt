use Rattle.spec_text.proofs.Plain.{own_path}
use Rattle.spec_text.proofs.laws.anchored_names_match_their_path.Goals as goal

pub returns : goal.returns
returns c = own_path

use Rattle.spec_text.proofs.Plain.{ends_of_paths}
use Rattle.spec_text.proofs.laws.names_match_ends_of_paths.Goals as goal

pub returns : goal.returns
returns c = ends_of_paths

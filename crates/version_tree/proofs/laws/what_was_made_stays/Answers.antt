use Rattle.version_tree.proofs.VersionIds.{made_before, version_id_before}
use Rattle.version_tree.proofs.laws.what_was_made_stays.Goals as goal

pub returns-clause-made : goal.returns-clause-made
returns-clause-made c = made_before

pub returns-clause-placed : goal.returns-clause-placed
returns-clause-placed c = version_id_before

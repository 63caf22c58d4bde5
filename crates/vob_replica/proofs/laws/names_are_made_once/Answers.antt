use Rattle.vob_replica.proofs.SoundLaws.{names-once}
use Rattle.vob_replica.proofs.laws.names_are_made_once.Goals as goal

pub returns : goal.returns
returns c = names-once

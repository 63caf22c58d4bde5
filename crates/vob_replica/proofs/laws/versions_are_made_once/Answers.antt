use Rattle.vob_replica.proofs.SoundLaws.{versions-once}
use Rattle.vob_replica.proofs.laws.versions_are_made_once.Goals as goal

pub returns : goal.returns
returns c = versions-once

use Rattle.vob_replica.proofs.SoundLaws.{one-master}
use Rattle.vob_replica.proofs.laws.masters_are_alone.Goals as goal

pub returns : goal.returns
returns c = one-master

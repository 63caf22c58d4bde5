use Rattle.vob_replica.proofs.SoundLaws.{know-the-same}
use Rattle.vob_replica.proofs.laws.equal_tables_show_the_same.Goals as goal

pub returns : goal.returns
returns c = know-the-same

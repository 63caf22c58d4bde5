use Rattle.vob_replica.proofs.NumberLaws.{numbers-once}
use Rattle.vob_replica.proofs.laws.numbers_are_made_once.Goals as goal

pub returns : goal.returns
returns c = numbers-once

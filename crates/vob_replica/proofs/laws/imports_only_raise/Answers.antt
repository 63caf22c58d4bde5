use Rattle.vob_replica.proofs.ImportLaws.{import-own}
use Rattle.vob_replica.proofs.laws.imports_only_raise.Goals as goal

pub returns : goal.returns
returns c = import-own

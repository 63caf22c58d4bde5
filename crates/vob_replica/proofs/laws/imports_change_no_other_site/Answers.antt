use Rattle.vob_replica.proofs.ImportLaws.{import-other}
use Rattle.vob_replica.proofs.laws.imports_change_no_other_site.Goals as goal

pub returns : goal.returns
returns c = import-other

use Rattle.build_core.proofs.RunsReady.{can_publish}
use Rattle.build_core.proofs.laws.a_unit_may_publish.Goals as goal

pub returns : goal.returns
returns c = can_publish

use Rattle.cc_names.proofs.Joins.{parts-join}
use Rattle.cc_names.proofs.paths.parts_join.Goals as goal

pub returns : goal.returns
returns c = parts-join

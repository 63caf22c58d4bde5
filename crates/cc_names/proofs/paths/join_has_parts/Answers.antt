use Rattle.cc_names.proofs.Joins.{join-parts}
use Rattle.cc_names.proofs.paths.join_has_parts.Goals as goal

pub returns : goal.returns
returns c = join-parts

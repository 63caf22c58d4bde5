use Rattle.std.proofs.Common.{◌∙◌}
use Rattle.vob_replica.proofs.KeptLaws.{found-in}
use Rattle.vob_replica.proofs.branches.find_in.Goals as goal

pub returns : goal.returns
returns c = c.get.ensures.value ∙ found-in c.args.identity.now c.args.branches.now.entries c.requires

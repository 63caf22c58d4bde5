use Rattle.std.proofs.Common.{◌∙◌}
use Rattle.vob_replica.proofs.SiteLaws.{packet-found}
use Rattle.vob_replica.proofs.sites.packet_in.Goals as goal

pub returns : goal.returns
returns c = c.get.ensures.value ∙ packet-found c.args.packets.now.entries c.args.name.now

use Rattle.std.proofs.Common.{◌∙◌, ap}
use Rattle.vob_replica.specs.Sites.{sents_of}
use Rattle.std.specs.Str.{bytes_eq}
use Rattle.indexmap.proofs.CallerLemmas.{insert_entry-new}
use Rattle.vob_replica.proofs.SiteLaws.{packet-found, sents-push}
use Rattle.vob_replica.proofs.sites.add_packet.Goals as goal

-- the packet is after the others
pub returns : goal.returns
returns c =
    let entries = c.args.packets.now.entries in
    ap sents_of (c.in_ok-insert.ensures.entries ∙ insert_entry-new bytes_eq c.args.packets.now c.args.name c.args.packet
    (packet-found entries c.args.name ∙ c.requires))
    ∙ sents-push entries c.args.name c.args.packet

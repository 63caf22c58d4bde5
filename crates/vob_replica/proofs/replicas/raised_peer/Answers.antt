use Rattle.std.proofs.Common.{◌≡◌, rules}
use Rattle.vob_replica.specs.Estimates.{estimates_of, exported_in}
use Rattle.vob_replica.specs.Replicas.{estimate_in}
use Rattle.vob_replica.proofs.PeerLaws.{estimate-exported, IsExported-risen}
use Rattle.vob_replica.proofs.replicas.raised_peer.Goals as goal

-- a higher estimate holds what was exported to the site too
pub returns-clause-exported : goal.returns-clause-exported
returns-clause-exported c known are =
    let peers = c.args.peers.now in
    let site = c.args.site.now in
    let is : c.in_ok-table_raised.table_raised ≡ estimate_in (estimates_of peers) site = search rules in
    let count : c.exported_to-exported.result ≡ exported_in peers site = search rules in
    IsExported-risen known c.in_ok-table_raised.table_raised c.raise_all.new.self c.exported_to-exported.result
    (estimate-exported known peers site c.in_ok-table_raised.table_raised c.exported_to-exported.result are is count)
    c.raise_all.ensures.risen

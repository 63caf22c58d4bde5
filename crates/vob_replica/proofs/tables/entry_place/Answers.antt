use Rattle.std.proofs.Common.{rules}
use Rattle.std.proofs.lemmas.List.Sorted.{IsPartitionPoint-from_clause}
use Rattle.vob_replica.specs.Tables.{is_below}
use Rattle.vob_replica.proofs.PlaceLaws.{sites-parted, entry-place-is}
use Rattle.vob_replica.proofs.tables.entry_place.Goals as goal

-- the sites are in order, so the test parts them
pub returns-clause-place : goal.returns-clause-place
returns-clause-place c =
    let site = c.args.site.now in
    let entries = c.args.entries.now in
    entry-place-is site entries _ c.partition_point.ensures.bound
    (IsPartitionPoint-from_clause (is_below site) entries _ c.partition_point.ensures.partitioned
    (sites-parted site entries c.requires)
    (λ a r f called. search rules))

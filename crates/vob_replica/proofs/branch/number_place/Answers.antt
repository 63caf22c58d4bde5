use Rattle.std.proofs.Common.{rules}
use Rattle.std.proofs.lemmas.List.Sorted.{IsPartitionPoint-from_clause}
use Rattle.vob_replica.specs.Branches.{is_number_below}
use Rattle.vob_replica.proofs.VersionLaws.{parted-below, count-is}
use Rattle.vob_replica.proofs.branch.number_place.Goals as goal

-- the versions stand by number, so the test parts them
pub returns : goal.returns
returns c =
    let number = c.args.number in
    let versions = c.args.versions.now in
    count-is (is_number_below number) versions _ c.partition_point.ensures.bound
    (IsPartitionPoint-from_clause (is_number_below number) versions _ c.partition_point.ensures.partitioned
    (parted-below number versions c.requires)
    (λ a r f called. search rules))

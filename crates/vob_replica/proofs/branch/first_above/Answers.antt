use Rattle.std.proofs.Common.{rules}
use Rattle.std.proofs.lemmas.List.Sorted.{IsPartitionPoint-from_clause}
use Rattle.vob_replica.specs.Branches.{is_up_to}
use Rattle.vob_replica.proofs.VersionLaws.{parted-up-to, count-is}
use Rattle.vob_replica.proofs.branch.first_above.Goals as goal

-- the versions stand by number, so the test parts them
pub returns-clause-place : goal.returns-clause-place
returns-clause-place c =
    let number = c.args.number in
    let versions = c.args.versions.now in
    count-is (is_up_to number) versions _ c.partition_point.ensures.bound
    (IsPartitionPoint-from_clause (is_up_to number) versions _ c.partition_point.ensures.partitioned
    (parted-up-to number versions c.requires)
    (λ a r f called. search rules))

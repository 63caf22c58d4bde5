use Rattle.std.proofs.Common.{ltb, rules}
use Rattle.std.proofs.lemmas.List.Sorted.{IsPartitionPoint-from_clause, IsPartitionedBy-ltb}
use Rattle.cc_names.proofs.ByRows.{rises}
use Rattle.cc_names.proofs.by_row.count_below.Goals as goal

-- the rows rise, so the test parts the items
pub returns-clause-below : goal.returns-clause-below
returns-clause-below g c =
    let row_in = g.T.ByRow.row_in in
    IsPartitionPoint-from_clause (λ x. ltb (row_in x) c.args.bound) c.args.items.now _ c.partition_point.ensures.partitioned
    (IsPartitionedBy-ltb row_in c.args.items.now c.args.bound (rises row_in _ c.requires))
    (λ a r f called. search rules)

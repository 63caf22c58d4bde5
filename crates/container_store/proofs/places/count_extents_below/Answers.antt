use Rattle.std.proofs.Common.{ltb, rules}
use Rattle.std.proofs.lemmas.List.Sorted.{IsPartitionPoint-from_clause, IsPartitionedBy-ltb}
use Rattle.cc_names.specs.declared.rows.Extent.{Extent}
use Rattle.container_store.proofs.Fitting.{never_fall}
use Rattle.container_store.proofs.places.count_extents_below.Goals as goal

pub returns-clause-below : goal.returns-clause-below
returns-clause-below c =
    IsPartitionPoint-from_clause (λ (e : Extent). ltb e.place c.args.place) c.args.taken.now _
    c.partition_point.ensures.partitioned
    (IsPartitionedBy-ltb (λ (e : Extent). e.place) c.args.taken.now c.args.place (never_fall c.args.taken.now c.requires))
    (λ a r f called. search rules)

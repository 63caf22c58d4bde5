-- The elements rise, so the test parts them.
use Rattle.std.proofs.Common.{nat_lt, rules}
use Rattle.std.proofs.lemmas.List.Sorted.{IsPartitionPoint-from_clause, IsPartitionedBy-ltb}
use Rattle.cc_names.specs.Formed.{element_of}
use Rattle.view_lookup.proofs.PlacedFinds.{elements_rise}
use Rattle.view_lookup.proofs.history.count_before.Goals as goal

pub returns-clause-before : goal.returns-clause-before
returns-clause-before c =
    IsPartitionPoint-from_clause (λ one. nat_lt (element_of one) c.args.element) c.args.placed.now _
    c.partition_point.ensures.partitioned
    (IsPartitionedBy-ltb element_of c.args.placed.now c.args.element (elements_rise c.args.placed.now c.requires))
    (λ a r f called. search rules)

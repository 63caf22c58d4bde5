use Rattle.vob_replica.proofs.KeptLaws.{order-of}
use Rattle.vob_replica.proofs.branches.Branches.take_operation.Goals as goal

-- the branches stay in order
pub invariant_of-self : goal.invariant_of-self
invariant_of-self c = (
  record {
    keyed = c.take_operation.ensures.keyed;
    order = order-of c.take_operation.result c.self.inside.branches.entries c.take_operation.new.branches.entries
        c.args.operation.now c.self.invariant.0.order c.take_operation.ensures.ok c.take_operation.ensures.err;
  },
  c.take_operation.ensures.names,
)

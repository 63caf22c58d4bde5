use Rattle.vob_replica.proofs.LogLaws.{in_step-after}
use Rattle.vob_replica.proofs.logs.Log.push.Goals as goal

-- the table stays that of the operations
pub invariant_of-self : goal.invariant_of-self
invariant_of-self c =
    in_step-after c.push_shared.result c.self.inside.operations.items c.push_shared.new.operations.items c.args.self.now
    c.self.inside.table c.push_shared.new.table c.args.operation
    c.self.invariant c.self.view_is c.requires c.push_shared.ensures.next c.push_shared.ensures.pushed
    c.push_shared.ensures.raised c.push_shared.ensures.kept c.push_shared.ensures.same

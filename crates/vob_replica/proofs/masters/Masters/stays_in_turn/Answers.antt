use Rattle.std.proofs.Common.{List, ap, ◌∙◌}
use Rattle.vob_replica.specs.Masters.{follows_last}
use Rattle.vob_replica.specs.declared.operations.Operation.{Operation}
use Rattle.vob_replica.proofs.ChainLaws.{chain-true, chain-false}
use Rattle.vob_replica.proofs.masters.Masters.stays_in_turn.Goals as goal

pub returns-then-self : goal.returns-then-self
returns-then-self c =
    chain-true c.self.inside.in_turn c.follows_last.result c.self.inside.operations.items c.args.self.now c.args.operation.now
    c.self.invariant.0 c.self.view_is c.if-self.true
    (c.follows_last.ensures ∙ ap (λ (l : List Operation). follows_last l c.args.operation.now) c.deref.ensures.value)

pub returns-else-self : goal.returns-else-self
returns-else-self c =
    c.if-self.false ∙ chain-false c.self.inside.in_turn c.self.inside.operations.items c.args.self.now c.args.operation.now
    c.self.invariant.0 c.self.view_is c.if-self.false

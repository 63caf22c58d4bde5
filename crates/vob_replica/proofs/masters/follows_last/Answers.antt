use Rattle.std.proofs.Common.{ap, ◌∙◌}
use Rattle.vob_replica.specs.Masters.{follows}
use Rattle.vob_replica.proofs.ChainLaws.{follows-at}
use Rattle.vob_replica.proofs.masters.follows_last.Goals as goal

pub returns-in-Some : goal.returns-in-Some
returns-in-Some c =
    c.follows.ensures ∙ ap (follows c.args.operation.now) c.operation.ensures.same
    ∙ follows-at c.args.operations.now c.in-Some.last.now c.args.operation.now c.in-Some.ensures.value

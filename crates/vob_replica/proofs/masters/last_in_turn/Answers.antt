use Rattle.std.proofs.Common.{Some, ap, ◌∙◌}
use Rattle.vob_replica.proofs.ChainLaws.{last-found}
use Rattle.vob_replica.proofs.masters.last_in_turn.Goals as goal

-- the last one needs all others
pub returns-in-Some : goal.returns-in-Some
returns-in-Some c =
    ap Some c.operation.ensures.same
    ∙ last-found c.args.operations.now c.in-Some.last.now c.requires.next c.requires.chain c.in-Some.ensures.value

use Rattle.std.proofs.Common.{List, ap, ◌∙◌}
use Rattle.std.specs.Prelude.{is_none}
use Rattle.vob_replica.specs.declared.events.Identity.{Identity}
use Rattle.vob_replica.specs.Tables.{first_gap}
use Rattle.vob_replica.proofs.ChainLaws.{covers-own, lacks-own}
use Rattle.vob_replica.proofs.needs.Needs.covers_with.Goals as goal

-- the own operation is not needed
pub returns-then-needed-own : goal.returns-then-needed-own
returns-then-needed-own c =
    lacks-own c.args.table.now c.args.own.now c.args.self.now c.number-needed.result c.number-needed.ensures
    c.if-needed-own.true

-- it is
pub returns : goal.returns
returns c =
    c.covers_all.ensures
    ∙ ap (λ (l : List Identity). is_none (first_gap l c.args.self.now)) c.entries.ensures.entries
    ∙ covers-own c.args.table.now c.args.own.now c.args.self.now c.number-needed.result c.number-needed.ensures
    c.if-needed-own.false

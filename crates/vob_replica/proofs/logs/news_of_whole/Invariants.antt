use Rattle.std.proofs.Common.{List, drop}
use Rattle.vob_replica.specs.declared.events.Identity.{Identity}
use Rattle.vob_replica.specs.declared.operations.Operation.{Operation}
use Rattle.vob_replica.specs.Logs.{IsLog, IsWhole}
use Rattle.vob_replica.specs.Tables.{IsWithin}
use Rattle.vob_replica.proofs.WholeLaws.{IsOnWhole}
use Rattle.vob_replica.proofs.logs.news_of_whole.Given as goal

abbrev pub invariant-loop-operation : goal.invariant-loop-operation
invariant-loop-operation l =
    (known : List Operation) (floor : List Identity) → IsLog l.initial.table known → IsWhole floor l.operations
    → IsWithin floor l.initial.table
    → IsOnWhole known l.table l.news.items (drop l.operation-index l.operations) l.operations

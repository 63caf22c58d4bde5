use Rattle.std.proofs.Common.{List, drop}
use Rattle.vob_replica.specs.declared.operations.Operation.{Operation}
use Rattle.vob_replica.specs.Logs.{IsLog}
use Rattle.vob_replica.proofs.LogLaws.{IsOn}
use Rattle.vob_replica.proofs.logs.news_of.Given as goal

abbrev pub invariant-loop-operation : goal.invariant-loop-operation
invariant-loop-operation l =
    (known : List Operation) → IsLog l.initial.table known → IsOn known l.table l.news.items
    (drop l.operation-index l.operations) l.operations

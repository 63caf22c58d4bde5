use Rattle.std.proofs.Common.{◌≡◌, List, [], subst}
use Rattle.vob_replica.specs.declared.operations.Operation.{Operation}
use Rattle.vob_replica.specs.Replicas.{above}
use Rattle.vob_replica.specs.Tables.{table_of}
use Rattle.vob_replica.proofs.WholeLaws.{none-above}
use Rattle.vob_replica.proofs.logs.Log.table.Goals as goal

-- the table holds all operations
pub returns-clause-all : goal.returns-clause-all
returns-clause-all c =
    subst (λ (known : List Operation). above (table_of known) known ≡ []) c.self.view_is
    (none-above c.self.inside.operations.items c.self.invariant.next)

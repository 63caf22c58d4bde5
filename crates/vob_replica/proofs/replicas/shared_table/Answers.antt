use Rattle.std.proofs.Common.{◌≡◌, List, sym, ◌∙◌, subst}
use Rattle.vob_replica.specs.declared.events.Identity.{Identity}
use Rattle.vob_replica.specs.Needs.{IsSharedBy}
use Rattle.vob_replica.specs.Tables.{table_of}
use Rattle.vob_replica.proofs.ImportLaws.{ascends_of}
use Rattle.vob_replica.proofs.NeedLaws.{shared-first}
use Rattle.vob_replica.proofs.replicas.shared_table.Goals as goal

-- there is none yet
pub returns : goal.returns
returns c =
    let name = c.args.name.now in
    let known = c.args.log.now in
    let all : c.in_ok-new.field-0.value ≡ table_of known =
    c.in_ok-new.ensures.ok ∙ c.in_ok-table.ensures ∙ c.table.ensures.table in
    subst (λ (t : List Identity). IsSharedBy name known t) (sym all) (shared-first (table_of known) name (ascends_of known))

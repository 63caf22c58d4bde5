use Rattle.std.proofs.Common.{List, subst, sym}
use Rattle.vob_replica.specs.declared.events.Identity.{Identity}
use Rattle.vob_replica.specs.Tables.{IsWithin}
use Rattle.vob_replica.proofs.HoldLaws.{more-within}
use Rattle.vob_replica.proofs.TableLaws.{Ascends-after}
use Rattle.vob_replica.proofs.tables.Table.raise.Goals as goal

-- the sites stay in byte order
pub invariant_of-self : goal.invariant_of-self
invariant_of-self c =
    Ascends-after c.put_operation.result c.self.inside.entries.items c.put_operation.new.entries.items c.args.identity.now
    c.self.invariant c.put_operation.ensures.ok c.put_operation.ensures.err

pub invariant_of-self-2 : goal.invariant_of-self-2
invariant_of-self-2 c =
    Ascends-after c.put_operation.result c.self.inside.entries.items c.put_operation.new.entries.items c.args.identity.now
    c.self.invariant c.put_operation.ensures.ok c.put_operation.ensures.err

-- no number falls
pub returns-clause-risen : goal.returns-clause-risen
returns-clause-risen c =
    let old = c.self.inside.entries.items in
    subst (λ (t : List Identity). IsWithin t c.put_operation.new.entries.items) c.self.view_is
    (subst (IsWithin old) (sym c.in_ok-put_operation.ensures.ok) (more-within old c.args.identity.now c.self.invariant))

-- a base is opened
use Rattle.std.proofs.Common.{sym, subst}
use Rattle.base_core.specs.Keeping.CoreInvariants.{CoreInvariant}
use Rattle.base_core.proofs.Keeping.Freshly.{preserved_opened, opens_so}
use Rattle.base_core.proofs.core_value.Core.open.Goals as goal

pub invariant_of-result : goal.invariant_of-result
invariant_of-result g c = subst (λ lanes. CoreInvariant c.in-Ok.log lanes 0) (sym c.none.ensures)
    (preserved_opened (g.D.Disk.ghost_state c.args.disk) c.in-Ok.log c.in-Ok.ensures.ok)

pub returns-in-Ok-clause-ok : goal.returns-in-Ok-clause-ok
returns-in-Ok-clause-ok g c = opens_so (g.D.Disk.ghost_state c.args.disk) c.in-Ok.log c.in-Ok.ensures.ok

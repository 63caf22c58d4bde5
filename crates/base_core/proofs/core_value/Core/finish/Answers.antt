-- the tail is settled: what is kept then
use Rattle.std.proofs.Common.{sym, subst}
use Rattle.base_core.specs.Keeping.CoreInvariants.{CoreInvariant}
use Rattle.base_core.proofs.Keeping.Freshly.{preserved_on_disk}
use Rattle.base_core.proofs.core_value.Core.finish.Goals as goal

pub invariant_of-self : goal.invariant_of-self
invariant_of-self g c =
    subst (λ log. CoreInvariant log c.self.inside.lanes c.self.inside.moment) (sym c.settle.ensures.same)
    (preserved_on_disk c.self.inside.log c.self.inside.lanes c.self.inside.moment c.settle.new.self.ghost_state
    c.settle.new.self.tail c.self.invariant)

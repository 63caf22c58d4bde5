-- Memory is short only where the deed sets a config spec.
use Rattle.std.proofs.Common.{◌≡◌, true, sym, subst}
use Rattle.std.specs.Prelude.{IfErr}
use Rattle.view_lookup.specs.Grouped.{sets_spec}
use Rattle.view_lookup.proofs.fitting.deed_fits.Goals as goal

pub returns-in-Setcs-clause-memory : goal.returns-in-Setcs-clause-memory
returns-in-Setcs-clause-memory c = subst (λ deed. IfErr c.setcs_fits.result (λ _. sets_spec deed ≡ true)) (sym c.in-Setcs.is)
    c.setcs_fits.ensures.memory

-- A new branch fits whether it is taken out or not.
use Rattle.std.proofs.Common.{sym, ap, ◌∙◌}
use Rattle.base_model.specs.Fits.{deed_fits}
use Rattle.view_lookup.proofs.fitting_elements.checkout_deed_fits.Goals as goal

pub returns-in-Branch : goal.returns-in-Branch
returns-in-Branch c = c.branch_fits.ensures c.in-Branch.out ∙ ap (deed_fits c.args.rows.now) (sym c.in-Branch.is)

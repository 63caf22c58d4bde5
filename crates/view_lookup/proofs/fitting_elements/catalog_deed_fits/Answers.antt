-- A new name fits whatever is named so.
use Rattle.std.proofs.Common.{sym, ap, ◌∙◌}
use Rattle.base_model.specs.Fits.{deed_fits}
use Rattle.view_lookup.proofs.fitting_elements.catalog_deed_fits.Goals as goal

pub returns-in-Mkelem : goal.returns-in-Mkelem
returns-in-Mkelem c = c.mkelem_fits.ensures c.in-Mkelem.kind c.in-Mkelem.out ∙ ap (deed_fits c.args.rows.now) (sym c.in-Mkelem.is)

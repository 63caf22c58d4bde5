-- A name stands for another one in a catalog of fewer rows, until a row tells its element.
use Rattle.std.proofs.Common.{◌<◌, length, sym, ap, subst, ◌∙◌, le_refl}
use Rattle.base_model.specs.Catalogs.{element_named}
use Rattle.base_model.specs.Rows.{Base, first_rows, size}
use Rattle.base_model.proofs.Stay.{all_rows}
use Rattle.view_lookup.specs.Resolving.{catalog_in}
use Rattle.view_lookup.proofs.catalogs.named_in.Goals as goal

pub loop-found-init : goal.loop-found-init
loop-found-init c =
    ap (λ (b : Base). element_named c.args.name.now (catalog_in b c.args.catalog))
    (c.first_rows-rows.ensures ∙ ap (λ n. first_rows n c.args.rows.now) c.size.ensures.size
    ∙ all_rows c.args.rows.now (size c.args.rows.now) (le_refl (size c.args.rows.now)))

pub returns-in-Is : goal.returns-in-Is
returns-in-Is c = sym c.in-Is.ensures ∙ c.loop-found.invariant

pub loop-found-smaller : goal.loop-found-smaller
loop-found-smaller c = subst (λ (b : Base). length b < length c.loop-found.rows) (sym c.first_rows-rows-in-As.ensures)
    c.in-As.ensures.0

pub loop-found-preserved : goal.loop-found-preserved
loop-found-preserved c =
    ap (λ (b : Base). element_named c.in-As.other.now (catalog_in b c.in-As.older)) c.first_rows-rows-in-As.ensures
    ∙ sym c.in-As.ensures.1
    ∙ c.loop-found.invariant

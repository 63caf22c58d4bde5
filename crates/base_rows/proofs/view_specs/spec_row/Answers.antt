-- The later of the row that began the view's life and of the row that set the spec.
use Rattle.std.proofs.Common.{refl, sym, ap, ap₂, ◌∙◌}
use Rattle.base_rows.specs.Effects.{life_effect, set_effect, spec_row_effect}
use Rattle.base_rows.specs.Lifetimes.{later}
use Rattle.base_rows.specs.LookUps.{left_by}
use Rattle.base_rows.proofs.Endings.{newest_of_two}
use Rattle.base_rows.proofs.Newest.{last_by_newest}
use Rattle.base_rows.proofs.view_specs.spec_row.Goals as goal

pub returns : goal.returns
returns c =
    let v = c.args.view.now in
    let b = c.args.rows.now in
    c.left_by.ensures
    ∙ ap left_by (c.later.ensures ∙ ap₂ later c.newest.ensures c.newest-2.ensures
    ∙ sym (newest_of_two (spec_row_effect v) (life_effect v) (set_effect v) (λ older deed. refl) b))
    ∙ sym (last_by_newest (spec_row_effect v) b)

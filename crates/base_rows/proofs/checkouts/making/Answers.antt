-- The later of the newest save and of the newest row of the checkout, unless the view's life began or ended after it.
use Rattle.std.proofs.Common.{◌≡◌, refl, sym, ap, ap₂, ◌∙◌}
use Rattle.std.specs.Prelude.{option_map}
use Rattle.base_model.specs.Rows.{size}
use Rattle.base_model.specs.Views.{making_effect}
use Rattle.base_rows.specs.Effects.{end_effect, checkout_effect, saved_effect, map_effect, map_update, row_of_stored}
use Rattle.base_rows.specs.Lifetimes.{within, later}
use Rattle.base_rows.specs.LookUps.{newest}
use Rattle.base_rows.proofs.Endings.{ended_by, last_within, newest_mapped, newest_of_two}
use Rattle.base_rows.proofs.Parts.{making_parts, text_effect}
use Rattle.base_rows.proofs.checkouts.making.Goals as goal

pub returns : goal.returns
returns c =
    let v = c.args.view.now in
    let e = c.args.element in
    let b = c.args.rows.now in
    let rows : c.row_of_update-taken.result ≡ newest (λ older deed. map_effect row_of_stored (checkout_effect v e older deed)) b =
    c.row_of_update-taken.ensures ∙ ap (option_map (map_update row_of_stored)) c.newest.ensures
    ∙ sym (newest_mapped row_of_stored (checkout_effect v e) b) in
    c.in_life.ensures
    ∙ ap (λ update_by_row. within (ended_by (newest (end_effect v) b)) update_by_row) (c.later.ensures
    ∙ ap₂ later rows c.newest-saved.ensures
    ∙ sym (newest_of_two (text_effect v e) (λ older deed. map_effect row_of_stored (checkout_effect v e older deed))
    (saved_effect v e) (λ older deed. refl) b))
    ∙ sym (last_within (λ older deed. making_effect v e (size older) deed) (end_effect v) (text_effect v e) (making_parts v e) b)

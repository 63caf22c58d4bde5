-- The newest row of the checkout, unless the view's life began or ended after it.
use Rattle.std.proofs.Common.{sym, ap, ◌∙◌}
use Rattle.std.specs.Prelude.{option_map}
use Rattle.base_model.specs.Rows.{size}
use Rattle.base_model.specs.Views.{out_effect}
use Rattle.base_rows.specs.Effects.{end_effect, taken_effect, stored_checkout, plain_checkout}
use Rattle.base_rows.specs.Lifetimes.{within}
use Rattle.base_rows.specs.LookUps.{newest}
use Rattle.base_rows.proofs.Endings.{last_within, newest_mapped, within_mapped, ended_by}
use Rattle.base_rows.proofs.Parts.{out_parts, plain_again}
use Rattle.base_rows.proofs.checkouts.checked_out.Goals as goal

pub returns : goal.returns
returns c =
    let v = c.args.view.now in
    let e = c.args.element in
    let b = c.args.rows.now in
    let ended = ended_by (newest (end_effect v) b) in
    let row = newest (taken_effect v e) b in
    ap (option_map plain_checkout) (c.in_life.ensures ∙ ap (λ update_by_row. within ended update_by_row) (c.newest.ensures
    ∙ newest_mapped stored_checkout (taken_effect v e) b) ∙ within_mapped stored_checkout ended row)
    ∙ plain_again (within ended row)
    ∙ sym (last_within (λ older deed. out_effect v e (size older) deed) (end_effect v) (taken_effect v e) (out_parts v e) b)

-- The newest row of the file, unless the view's life began or ended after it.
use Rattle.std.proofs.Common.{sym, ap, ◌∙◌}
use Rattle.base_model.specs.Rows.{size}
use Rattle.base_model.specs.Views.{private_effect}
use Rattle.base_rows.specs.Effects.{end_effect, file_effect}
use Rattle.base_rows.specs.Lifetimes.{within}
use Rattle.base_rows.specs.LookUps.{newest}
use Rattle.base_rows.proofs.Endings.{ended_by, last_within}
use Rattle.base_rows.proofs.Parts.{private_parts}
use Rattle.base_rows.proofs.views.private_at.Goals as goal

pub returns : goal.returns
returns c =
    let v = c.args.view.now in
    let path = c.args.path.now in
    c.in_life.ensures
    ∙ ap (λ update_by_row. within (ended_by (newest (end_effect v) c.args.rows.now)) update_by_row) c.newest.ensures
    ∙ sym (last_within (λ older deed. private_effect v path (size older) deed) (end_effect v) (file_effect v path)
    (private_parts v path) c.args.rows.now)

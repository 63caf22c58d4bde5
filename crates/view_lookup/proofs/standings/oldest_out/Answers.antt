-- The oldest row of the view's life that took something out that stands.
use Rattle.std.proofs.Common.{sym, ap, ◌∙◌}
use Rattle.std.specs.Option.{unwrap_or}
use Rattle.base_rows.specs.Effects.{standing_effect}
use Rattle.base_rows.specs.LookUps.{from_row, oldest}
use Rattle.view_lookup.proofs.OldestOut.{oldest_in_life, oldest_standing}
use Rattle.view_lookup.proofs.standings.oldest_out.Goals as goal

pub returns : goal.returns
returns c =
    let b = c.args.rows.now in
    let v = c.args.view.now in
    c.oldest_from.ensures
    ∙ ap (λ began. oldest (from_row began (standing_effect b v)) b) (c.unwrap_or-began.ensures
    ∙ ap (λ began. unwrap_or began 0) c.view_row.ensures)
    ∙ oldest_in_life b v
    ∙ sym (oldest_standing b v)

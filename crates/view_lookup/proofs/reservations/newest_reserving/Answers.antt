-- The checkout of the newest row that reserved the branch.
use Rattle.std.proofs.Common.{ap, ◌∙◌}
use Rattle.std.specs.Prelude.{option_and_then, option_map}
use Rattle.base_model.specs.Rows.{deed_of}
use Rattle.base_model.specs.Views.{made_out}
use Rattle.base_rows.specs.Effects.{plain_taken}
use Rattle.view_lookup.specs.Reservations.{taken_at}
use Rattle.view_lookup.proofs.reservations.newest_reserving.Goals as goal

pub returns-in_err-number : goal.returns-in_err-number
returns-in_err-number c =
    ap (option_map plain_taken) c.from_residual.ensures
    ∙ ap (option_and_then (taken_at c.args.rows.now)) c.in_err-number.ensures

pub returns-in_err-row : goal.returns-in_err-row
returns-in_err-row c =
    ap (option_map plain_taken) c.from_residual-in_err-row.ensures
    ∙ ap (λ row. option_and_then (made_out c.in_ok-number.number) (deed_of row)) c.in_err-row.ensures
    ∙ ap (option_and_then (taken_at c.args.rows.now)) c.in_ok-number.ensures

pub returns : goal.returns
returns c =
    c.made_out.ensures
    ∙ ap (made_out c.in_ok-number.number) c.deed.ensures.deed
    ∙ ap (λ row. option_and_then (made_out c.in_ok-number.number) (deed_of row)) c.in_ok-row.ensures
    ∙ ap (option_and_then (taken_at c.args.rows.now)) c.in_ok-number.ensures

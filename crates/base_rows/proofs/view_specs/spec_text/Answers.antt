-- The text of the row by which the view has its config spec.
use Rattle.std.proofs.Common.{sym, ap, ◌∙◌}
use Rattle.std.specs.Option.{option_copied}
use Rattle.std.specs.Prelude.{option_and_then}
use Rattle.base_model.specs.Rows.{deed_of}
use Rattle.base_rows.specs.Made.{spec_made}
use Rattle.base_rows.proofs.SpecRows.{spec_at, text_by_row}
use Rattle.base_rows.proofs.view_specs.spec_text.Goals as goal

pub returns-in_err-spec_row : goal.returns-in_err-spec_row
returns-in_err-spec_row c =
    ap option_copied c.from_residual.ensures
    ∙ ap (option_and_then (spec_at c.args.rows.now)) c.in_err-spec_row.ensures
    ∙ sym (text_by_row c.args.rows.now c.args.view.now)

pub returns-in_err-row : goal.returns-in_err-row
returns-in_err-row c =
    ap option_copied c.from_residual-in_err-row.ensures
    ∙ ap (λ row. option_and_then spec_made (deed_of row)) c.in_err-row.ensures
    ∙ ap (option_and_then (spec_at c.args.rows.now)) c.in_ok-spec_row.ensures
    ∙ sym (text_by_row c.args.rows.now c.args.view.now)

pub returns : goal.returns
returns c =
    c.spec_made.ensures
    ∙ ap spec_made c.deed.ensures.deed
    ∙ ap (λ row. option_and_then spec_made (deed_of row)) c.in_ok-row.ensures
    ∙ ap (option_and_then (spec_at c.args.rows.now)) c.in_ok-spec_row.ensures
    ∙ sym (text_by_row c.args.rows.now c.args.view.now)

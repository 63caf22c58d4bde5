-- The rules that the row gave by which the view has its config spec.
use Rattle.std.proofs.Common.{ap, ◌∙◌}
use Rattle.std.specs.Option.{option_and_then, option_copied}
use Rattle.base_model.specs.Rows.{deed_at}
use Rattle.base_rows.specs.SetSpecs.{or_no_rules, rules_set}
use Rattle.base_rows.proofs.SpecsSet.{view_rules}
use Rattle.base_rows.proofs.view_specs.rules.Goals as goal

pub returns-in_err-spec_row : goal.returns-in_err-spec_row
returns-in_err-spec_row c =
    let b = c.args.rows.now in
    ap or_no_rules (ap option_copied c.from_residual.ensures ∙ ap (option_and_then (λ m. option_and_then rules_set (deed_at b m)))
    c.in_err-spec_row.ensures)
    ∙ view_rules b c.args.view.now

pub returns : goal.returns
returns c =
    let b = c.args.rows.now in
    ap or_no_rules (c.spec_given.ensures ∙ ap (option_and_then (λ m. option_and_then rules_set (deed_at b m)))
    c.in_ok-spec_row.ensures)
    ∙ view_rules b c.args.view.now

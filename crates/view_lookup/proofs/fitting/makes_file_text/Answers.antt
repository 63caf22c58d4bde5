-- Any other deed makes the text of an element or none.
use Rattle.std.proofs.Common.{ap, ◌∙◌}
use Rattle.base_model.specs.Conditions.{is_some_file}
use Rattle.view_lookup.proofs.RowsFit.{text_of_element}
use Rattle.view_lookup.proofs.fitting.makes_file_text.Goals as goal

pub returns-in_default : goal.returns-in_default
returns-in_default c =
    c.is_some_file.ensures
    ∙ ap (is_some_file c.args.rows.now) (c.element_of_text.ensures c.args.rows.now)
    ∙ text_of_element c.args.rows.now c.args.row c.args.deed.now c.in_default.not-Put

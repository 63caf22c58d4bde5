-- The labels on the selected version are told after its name.
use Rattle.std.proofs.Common.{ℕ, Bool, List, ◌++◌, append_assoc, codes, map, ap, sym, ◌∙◌}
use Rattle.std.specs.List.{concat}
use Rattle.legal_history.specs.Queries.ElementTexts.{labels_on, selected_lines}
use Rattle.legal_history.specs.Queries.VersionNames.{line, version_name}
use Rattle.vob_history.specs.Descriptions.{label_line}
use Rattle.vob_history.proofs.descriptions.push_selected.Goals as goal

pub returns-in_ok-push_labels_on : goal.returns-in_ok-push_labels_on
returns-in_ok-push_labels_on c =
    let b = c.args.rows.now in
    let picked = c.args.picked in
    let text = c.args.text.now.items in
    let labels = concat (map label_line (labels_on b c.args.element picked.row)) in
    c.in_ok-push_labels_on.ensures
    ∙ ap (λ (bytes : List ℕ). bytes ++ labels) c.in_ok-push_version.ensures
    ∙ append_assoc text (line (codes "version " ++ version_name b picked.row)) labels
    ∙ ap (λ (out : Bool). text ++ selected_lines b c.args.view.now c.args.element picked out) (sym c.if-picked.false)

-- The rows of the element's history tell what was done to it.
use Rattle.std.proofs.Common.{ℕ, List, ◌++◌, map, ap₂, ◌∙◌}
use Rattle.std.specs.List.{concat}
use Rattle.vob_history.specs.Histories.{history_row_lines}
use Rattle.vob_history.proofs.HistoryRows.{by_history}
use Rattle.vob_history.proofs.histories.history_text.Goals as goal

pub returns : goal.returns
returns c =
    let b = c.args.rows.now in
    let e = c.args.element in
    c.of.ensures
    ∙ c.in_ok-push_rows.ensures
    ∙ ap₂ (λ (text numbers : List ℕ). text ++ concat (map (history_row_lines b e) numbers)) c.new-text.ensures.items
    (c.deref.ensures.value ∙ c.in_ok-numbers.ensures)
    ∙ by_history b e

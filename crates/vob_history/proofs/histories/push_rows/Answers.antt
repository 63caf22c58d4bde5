-- The lines of one row after the other are written.
use Rattle.std.proofs.Common.{ℕ, ◌+◌, List, ◌++◌, drop, map, get_or, append-nil, append_assoc, ap, sym, ◌∙◌}
use Rattle.std.proofs.lemmas.List.{at_drop_all, at_drop_more}
use Rattle.std.specs.List.{concat}
use Rattle.vob_history.specs.Histories.{history_row_lines}
use Rattle.vob_history.proofs.histories.push_rows.Goals as goal

pub loop-number-preserved : goal.loop-number-preserved
loop-number-preserved c =
    let lines = history_row_lines c.args.rows.now c.args.element in
    let numbers = c.args.numbers.now in
    let i = c.loop-number.number-index in
    let text = c.loop-number.text.items in
    let rest = concat (map lines (drop (i + 1) numbers)) in
    ap (λ (bytes : List ℕ). bytes ++ rest) c.in_ok-push_row.ensures
    ∙ append_assoc text (lines (get_or numbers i 0)) rest
    ∙ sym (at_drop_more (λ (left : List ℕ). text ++ concat (map lines left)) numbers i 0 c.loop-number-test.true)
    ∙ c.loop-number.invariant

pub returns : goal.returns
returns c =
    let lines = history_row_lines c.args.rows.now c.args.element in
    let text = c.loop-number.text.items in
    sym (append-nil text)
    ∙ sym (at_drop_all (λ (left : List ℕ). text ++ concat (map lines left)) c.args.numbers.now c.loop-number.number-index
    c.loop-number-test.false)
    ∙ c.loop-number.invariant

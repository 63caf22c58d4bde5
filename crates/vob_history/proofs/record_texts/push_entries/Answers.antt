-- The line of one entry after the other is written.
use Rattle.std.proofs.Common.{ℕ, ◌+◌, List, ◌++◌, drop, map, append-nil, append_assoc, ap, sym, ◌∙◌}
use Rattle.std.proofs.lemmas.List.{at_drop_all, at_drop_more}
use Rattle.std.specs.List.{concat}
use Rattle.cc_names.specs.declared.rows.ReadOf.{ReadOf}
use Rattle.legal_history.specs.Queries.RecordTexts.{line_of_read}
use Rattle.vob_history.specs.Recorded.{entry_line}
use Rattle.vob_history.proofs.record_texts.push_entries.Goals as goal

pub loop-entry-preserved : goal.loop-entry-preserved
loop-entry-preserved c =
    let b = c.args.rows.now in
    let entries = c.args.entries.now in
    let i = c.loop-entry.entry-index in
    let text = c.loop-entry.text.items in
    let entry = c.entry-item.result in
    let rest = concat (map (entry_line b) (drop (i + 1) entries)) in
    ap (λ (bytes : List ℕ). bytes ++ rest) (c.in_ok-push_read.ensures ∙ ap
    (λ (path : List ℕ). text ++ line_of_read b path entry.row) c.as_bytes.ensures.bytes)
    ∙ append_assoc text (entry_line b entry) rest
    ∙ ap (λ (one : ReadOf). text ++ (entry_line b one ++ rest)) c.entry-item.is
    ∙ sym (at_drop_more (λ (left : List ReadOf). text ++ concat (map (entry_line b) left)) entries i entry c.loop-entry-test.true)
    ∙ c.loop-entry.invariant

pub returns : goal.returns
returns c =
    let b = c.args.rows.now in
    let text = c.loop-entry.text.items in
    sym (append-nil text)
    ∙ sym (at_drop_all (λ (left : List ReadOf). text ++ concat (map (entry_line b) left)) c.args.entries.now
    c.loop-entry.entry-index c.loop-entry-test.false)
    ∙ c.loop-entry.invariant

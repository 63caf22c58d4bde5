-- The line of one label after the other is written.
use Rattle.std.proofs.Common.{ℕ, ◌+◌, List, ◌++◌, drop, map, append-nil, append_assoc, ap, sym, ◌∙◌, Bor}
use Rattle.std.specs.Prelude.{codes}
use Rattle.std.proofs.lemmas.List.{at_drop_all, at_drop_more}
use Rattle.std.specs.List.{concat}
use Rattle.legal_history.specs.Queries.VersionNames.{line}
use Rattle.vob_history.specs.Descriptions.{label_line}
use Rattle.vob_history.proofs.descriptions.push_labels.Goals as goal

pub loop-label-preserved : goal.loop-label-preserved
loop-label-preserved c =
    let labels = c.args.labels.now in
    let i = c.loop-label.label-index in
    let text = c.loop-label.text.items in
    let label = c.label-item.result in
    let rest = concat (map (λ (one : Bor (List ℕ)). label_line one.now) (drop (i + 1) labels)) in
    ap (λ (bytes : List ℕ). bytes ++ rest) (c.in_ok-push_line.ensures ∙ ap
    (λ (name : List ℕ). text ++ line (codes "label " ++ name)) c.as_bytes.ensures)
    ∙ append_assoc text (label_line label.now) rest
    ∙ ap (λ (one : Bor (List ℕ)). text ++ (label_line one.now ++ rest)) c.label-item.is
    ∙ sym (at_drop_more (λ (left : List (Bor (List ℕ))). text ++ concat (map (λ (one : Bor (List ℕ)). label_line one.now) left))
    labels i label c.loop-label-test.true)
    ∙ c.loop-label.invariant

pub returns : goal.returns
returns c =
    let text = c.loop-label.text.items in
    sym (append-nil text)
    ∙ sym (at_drop_all (λ (left : List (Bor (List ℕ))). text ++ concat (map (λ (one : Bor (List ℕ)). label_line one.now) left))
    c.args.labels.now c.loop-label.label-index c.loop-label-test.false)
    ∙ c.loop-label.invariant

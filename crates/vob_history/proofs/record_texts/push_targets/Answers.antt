-- The line of one target after the other is written.
use Rattle.std.proofs.Common.{ℕ, ◌+◌, List, ◌++◌, drop, map, append-nil, append_assoc, ap, sym, ◌∙◌}
use Rattle.std.specs.Prelude.{codes}
use Rattle.std.proofs.lemmas.List.{at_drop_all, at_drop_more}
use Rattle.std.specs.List.{concat}
use Rattle.legal_history.specs.Queries.VersionNames.{line}
use Rattle.vob_history.specs.Recorded.{target_line}
use Rattle.vob_history.proofs.record_texts.push_targets.Goals as goal

pub loop-target-preserved : goal.loop-target-preserved
loop-target-preserved c =
    let targets = c.args.targets.now in
    let i = c.loop-target.target-index in
    let text = c.loop-target.text.items in
    let target = c.target-item.result in
    let rest = concat (map target_line (drop (i + 1) targets)) in
    ap (λ (bytes : List ℕ). bytes ++ rest) (c.in_ok-push_line.ensures ∙ ap
    (λ (name : List ℕ). text ++ line (codes "target " ++ name)) c.as_bytes.ensures.bytes)
    ∙ append_assoc text (target_line target) rest
    ∙ ap (λ (one : List ℕ). text ++ (target_line one ++ rest)) c.target-item.is
    ∙ sym (at_drop_more (λ (left : List (List ℕ)). text ++ concat (map target_line left)) targets i target
    c.loop-target-test.true)
    ∙ c.loop-target.invariant

pub returns : goal.returns
returns c =
    let text = c.loop-target.text.items in
    sym (append-nil text)
    ∙ sym (at_drop_all (λ (left : List (List ℕ)). text ++ concat (map target_line left)) c.args.targets.now
    c.loop-target.target-index c.loop-target-test.false)
    ∙ c.loop-target.invariant

-- One word after the other is written.
use Rattle.std.proofs.Common.{ℕ, ◌+◌, List, ◌++◌, drop, map, append-nil, append_assoc, ap, sym, ◌∙◌, Bor}
use Rattle.std.specs.Prelude.{codes}
use Rattle.std.proofs.lemmas.List.{at_drop_all, at_drop_more}
use Rattle.std.specs.List.{concat}
use Rattle.vob_history.specs.VersionTrees.{behind_comma}
use Rattle.vob_history.proofs.bracketed.push_more.Goals as goal

pub loop-word-preserved : goal.loop-word-preserved
loop-word-preserved c =
    let words = c.args.words.now in
    let i = c.loop-word.word-index in
    let text = c.loop-word.text.items in
    let word = c.word-item.result in
    let rest = concat (map (λ (one : Bor (List ℕ)). behind_comma one.now) (drop (i + 1) words)) in
    ap (λ (bytes : List ℕ). bytes ++ rest)
    (c.in_ok-extend_from_slice-2.ensures.items
    ∙ ap (λ (bytes : List ℕ). bytes ++ c.as_bytes.result.now) c.in_ok-extend_from_slice.ensures.items
    ∙ append_assoc text (codes ", ") c.as_bytes.result.now
    ∙ ap (λ (bytes : List ℕ). text ++ (codes ", " ++ bytes)) c.as_bytes.ensures)
    ∙ append_assoc text (behind_comma word.now) rest
    ∙ ap (λ (one : Bor (List ℕ)). text ++ (behind_comma one.now ++ rest)) c.word-item.is
    ∙ sym (at_drop_more (λ (left : List (Bor (List ℕ))). text ++ concat (map (λ (one : Bor (List ℕ)). behind_comma one.now) left))
    words i word c.loop-word-test.true)
    ∙ c.loop-word.invariant

pub returns : goal.returns
returns c =
    let text = c.loop-word.text.items in
    sym (append-nil text)
    ∙ sym (at_drop_all (λ (left : List (Bor (List ℕ))). text ++ concat (map (λ (one : Bor (List ℕ)). behind_comma one.now) left))
    c.args.words.now c.loop-word.word-index c.loop-word-test.false)
    ∙ c.loop-word.invariant

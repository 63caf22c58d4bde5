-- The first label is written, and then each other one with a comma before it.
use Rattle.std.proofs.Common.{◌≡◌, ℕ, List, ◌∷◌, ◌++◌, map, append_assoc, ap, sym, ◌∙◌, Bor}
use Rattle.std.specs.Prelude.{codes}
use Rattle.std.specs.List.{concat}
use Rattle.legal_history.specs.Queries.ElementTexts.{in_brackets, with_commas}
use Rattle.vob_history.specs.VersionTrees.{behind_comma}
use Rattle.vob_history.proofs.TreeParts.{commas_more, map_map}
use Rattle.vob_history.proofs.bracketed.push_brackets.Goals as goal

pub returns-in_ok-push-in-Some : goal.returns-in_ok-push-in-Some
returns-in_ok-push-in-Some c =
    let text = c.args.text.now.items in
    let first = c.in-Some.first.now.now in
    let others = c.in-Some.others.now in
    let names : List (List ℕ) = map (λ (label : Bor (List ℕ)). label.now) others in
    let more = concat (map (λ (word : Bor (List ℕ)). behind_comma word.now) others) in
    let reported : first ++ more ≡ with_commas (first ∷ names) =
    ap (λ (bytes : List (List ℕ)). first ++ concat bytes) (sym (map_map behind_comma (λ (label : Bor (List ℕ)). label.now)
    others)) ∙ sym (commas_more first names) in
    let written : c.push_more.new.text.items ≡ text ++ (codes " (" ++ with_commas (first ∷ names)) =
    c.in_ok-push_more-in-Some.ensures
    ∙ ap (λ (bytes : List ℕ). bytes ++ more)
    (c.in_ok-extend_from_slice-in-Some-2.ensures.items
    ∙ ap (λ (bytes : List ℕ). bytes ++ c.as_bytes.result.now) c.in_ok-extend_from_slice-in-Some.ensures.items
    ∙ ap (λ (bytes : List ℕ). (text ++ codes " (") ++ bytes) c.as_bytes.ensures)
    ∙ append_assoc (text ++ codes " (") first more
    ∙ append_assoc text (codes " (") (first ++ more)
    ∙ ap (λ (bytes : List ℕ). text ++ (codes " (" ++ bytes)) reported in
    c.in_ok-push-in-Some.ensures.items
    ∙ ap (λ (bytes : List ℕ). bytes ++ codes ")") written
    ∙ append_assoc text (codes " (" ++ with_commas (first ∷ names)) (codes ")")
    ∙ ap (λ (labels : List (Bor (List ℕ))). text ++ in_brackets (map (λ (label : Bor (List ℕ)). label.now) labels))
    (sym c.in-Some.ensures.cases.0)

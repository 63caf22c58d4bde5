-- The labels on the version are told one after the other.
use Rattle.std.proofs.Common.{◌≡◌, ℕ, List, ◌++◌, map, ap, sym, ◌∙◌, Bor}
use Rattle.std.specs.List.{concat}
use Rattle.legal_history.specs.Queries.ElementTexts.{labels_on}
use Rattle.vob_history.specs.Descriptions.{label_line}
use Rattle.vob_history.proofs.TreeParts.{map_map}
use Rattle.vob_history.proofs.descriptions.push_labels_on.Goals as goal

pub returns : goal.returns
returns c =
    let b = c.args.rows.now in
    let e = c.args.element in
    let text = c.args.text.now.items in
    let own = c.deref.result.now in
    let names : map (λ (label : Bor (List ℕ)). label.now) own ≡ labels_on b e c.args.version =
    ap (map (λ (label : Bor (List ℕ)). label.now)) c.deref.ensures.value ∙ c.in_ok-own.ensures
    ∙ c.in_ok-labels.ensures c.args.version in
    c.in_ok-push_labels.ensures
    ∙ ap (λ (more : List ℕ). text ++ more)
    (ap concat (sym (map_map label_line (λ (label : Bor (List ℕ)). label.now) own))
    ∙ ap (λ (labels : List (List ℕ)). concat (map label_line labels)) names)

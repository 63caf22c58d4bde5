-- The name, the version from which and the rule are written one after the other.
use Rattle.std.proofs.Common.{ℕ, List, [], ◌∷◌, ◌++◌, append_assoc, ap, sym, ◌∙◌}
use Rattle.std.specs.Prelude.{codes}
use Rattle.base_model.specs.Views.{out}
use Rattle.legal_history.specs.Queries.DirectoryTexts.{by_rule, origin_name}
use Rattle.legal_history.specs.Queries.VersionNames.{line}
use Rattle.cleartool.proofs.Behind.{five_behind}
use Rattle.cleartool.proofs.directory_texts.push_checked_out.Goals as goal

pub returns : goal.returns
returns c =
    let b = c.args.rows.now in
    let v = c.args.view.now in
    let e = c.args.element in
    let name = c.args.name.now in
    let text = c.args.text.now.items in
    let origin = origin_name b (out b v e) in
    let rule = by_rule c.args.picked.line in
    let prefix : List ℕ = ((text ++ name) ++ codes " checkedout from ") ++ origin in
    c.in_ok-push_rule.ensures
    ∙ ap (λ (bytes : List ℕ). bytes ++ line rule)
    (c.in_ok-extend_from_slice-3.ensures.items
    ∙ ap (λ (bytes : List ℕ). bytes ++ c.as_bytes.result.now)
    (c.in_ok-extend_from_slice-2.ensures.items ∙ ap (λ (bytes : List ℕ). bytes ++ codes " checkedout from ")
    c.in_ok-extend_from_slice.ensures.items)
    ∙ ap (λ (bytes : List ℕ). ((text ++ name) ++ codes " checkedout from ") ++ bytes) (c.as_bytes.ensures
    ∙ c.in_ok-origin.ensures))
    ∙ sym (append_assoc prefix rule (10 ∷ []))
    ∙ five_behind text name (codes " checkedout from ") origin rule (10 ∷ [])

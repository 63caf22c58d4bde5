-- The name stands after those of the branch at which the new one leaves.
use Rattle.std.proofs.Common.{◌≡◌, ℕ, List, [], ◌∷◌, ◌++◌, codes, decimal, append_assoc, ap, sym, subst, ◌∙◌}
use Rattle.std.specs.Prelude.{IfOk}
use Rattle.cc_names.specs.Branches.{branch_of_version}
use Rattle.view_lookup.specs.Naming.{names_above}
use Rattle.base_model.specs.Changes.{tree}
use Rattle.legal_history.specs.Queries.VersionNames.{behind_slashes}
use Rattle.view_lookup.proofs.NextNames.{slashes_more}
use Rattle.view_lookup.proofs.version_names.first_name.Goals as goal

pub returns : goal.returns
returns c =
    let changes = tree c.args.rows.now in
    let above = branch_of_version changes c.args.origin in
    let path = behind_slashes (codes "main" ∷ names_above changes above) in
    let branch : c.in_ok-branch.branch.items ≡ path = c.in_ok-branch.ensures
    ∙ ap (λ o. behind_slashes (codes "main" ∷ names_above changes o)) c.branch_of_version.ensures in
    let written : c.extend_from_slice.new.self.items ≡ path ++ 47 ∷ c.args.name.now =
    c.in_ok-extend_from_slice.ensures.items ∙ ap (λ (bytes : List ℕ). bytes ++ c.as_bytes.result.now) (c.in_ok-push.ensures.items
    ∙ ap (λ (bytes : List ℕ). bytes ++ 47 ∷ []) branch)
    ∙ append_assoc path (47 ∷ []) c.as_bytes.result.now ∙ ap (λ (bytes : List ℕ). path ++ 47 ∷ bytes) c.as_bytes.ensures.bytes in
    let named : path ++ 47 ∷ c.args.name.now ≡ behind_slashes (codes "main"
    ∷ (names_above changes above ++ c.args.name.now ∷ [])) =
    sym (slashes_more (codes "main" ∷ names_above changes above) c.args.name.now) in
    subst (λ (bytes : List ℕ). IfOk c.name_with_number.result (λ text. text ≡ bytes ++ 47 ∷ decimal 0)) (written
    ∙ named) c.name_with_number.ensures

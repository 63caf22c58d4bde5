-- The path, two signs and the version are written one after the other.
use Rattle.std.proofs.Common.{ℕ, List, [], ◌∷◌, ◌++◌, append_assoc, ap, ◌∙◌}
use Rattle.view_lookup.proofs.version_names.push_at_version.Goals as goal

pub returns : goal.returns
returns c =
    let text = c.args.text.now.items in
    let path = c.args.path.now in
    let version = c.args.version.now in
    c.in_ok-extend_from_slice-3.ensures.items
    ∙ ap (λ (bytes : List ℕ). bytes ++ version) (c.in_ok-extend_from_slice-2.ensures.items
    ∙ ap (λ (bytes : List ℕ). bytes ++ 64 ∷ 64 ∷ []) c.in_ok-extend_from_slice.ensures.items)
    ∙ append_assoc (text ++ path) (64 ∷ 64 ∷ []) version
    ∙ append_assoc text path (64 ∷ 64 ∷ version)

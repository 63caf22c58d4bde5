-- A new branch begins with the version that the row makes.
use Rattle.std.proofs.Common.{◌≡◌, ◌∷◌, Some, ap, sym, ◌∙◌}
use Rattle.cc_names.specs.declared.changes.TreeChange.TheVariants.{BranchMade}
use Rattle.cc_names.specs.declared.rows.Deed.{Deed}
use Rattle.cc_names.specs.declared.rows.Deed.TheVariants as deeds
use Rattle.view_lookup.specs.Naming.{replied_name}
use Rattle.base_model.specs.Changes.{tree, tree_after}
use Rattle.base_model.specs.Rows.{size}
use Rattle.view_lookup.proofs.NextNames.{version_first}
use Rattle.view_lookup.proofs.version_names.replied_name.Goals as goal

pub returns-in_ok-first_name-in-Branch : goal.returns-in_ok-first_name-in-Branch
returns-in_ok-first_name-in-Branch c = λ row is.
    let b = c.args.rows.now in
    let deed : row.deed ≡ deeds.Branch c.in-Branch.view c.in-Branch.element c.in-Branch.origin c.in-Branch.name c.in-Branch.out =
    is ∙ c.in-Branch.is in
    let made : tree (row ∷ b) ≡ BranchMade (size b) row.moment c.in-Branch.element c.in-Branch.origin c.in-Branch.name ∷ tree b =
    ap (λ (d : Deed). tree_after b row.moment d (tree b)) deed in
    ap Some (c.in_ok-first_name-in-Branch.ensures ∙ sym (version_first row b row.moment c.in-Branch.element c.in-Branch.origin
    c.in-Branch.name made)) ∙ ap (replied_name (row ∷ b)) (sym c.in-Branch.is)

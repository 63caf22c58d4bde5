-- A branch leaves the branch of its origin, among the rows below it.
use Rattle.std.proofs.Common.{List, ℕ, [], ◌∷◌, ◌++◌, Option, ap₂, sym, ◌∙◌}
use Rattle.view_lookup.specs.Naming.{names_above}
use Rattle.base_model.specs.Changes.{tree}
use Rattle.base_model.specs.Rows.{first_rows}
use Rattle.view_lookup.proofs.BranchNames.{branch_leaves, unnamed}
use Rattle.view_lookup.proofs.version_names.leaving.Goals as goal

pub returns-in-None-clause-main : goal.returns-in-None-clause-main
returns-in-None-clause-main c = unnamed c.args.rows.now c.args.branch (sym c.in-None.ensures)

pub returns-in-Some-clause-behind : goal.returns-in-Some-clause-behind
returns-in-Some-clause-behind c = (branch_leaves c.args.rows.now c.args.branch c.in-Some.name.now (sym c.in-Some.ensures)).behind

pub returns-in-Some-clause-below : goal.returns-in-Some-clause-below
returns-in-Some-clause-below c = (branch_leaves c.args.rows.now c.args.branch c.in-Some.name.now (sym c.in-Some.ensures)).below

pub returns-in-Some-clause-leaves : goal.returns-in-Some-clause-leaves
returns-in-Some-clause-leaves c =
    (branch_leaves c.args.rows.now c.args.branch c.in-Some.name.now (sym c.in-Some.ensures)).names
    ∙ ap₂ (λ (above : Option ℕ) (name : List ℕ). names_above (tree (first_rows c.args.branch c.args.rows.now)) above ++ name ∷ [])
    (sym c.branch_above.ensures) (sym c.as_bytes.ensures.bytes)

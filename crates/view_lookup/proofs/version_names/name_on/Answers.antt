-- The newest version of a branch that there is tells how many there are.
use Rattle.std.proofs.Common.{◌≡◌, ℕ, ◌+◌, List, ◌∷◌, ◌++◌, Option, Some, None, decimal, length, ap, ap₂, sym, subst, ◌∙◌, arith}
use Rattle.std.specs.Prelude.{IfOk, option_and_then}
use Rattle.cc_names.specs.Versions.{element_of_branch, latest, version_id, versions_on}
use Rattle.cc_names.specs.declared.changes.VersionId.{VersionId}
use Rattle.view_lookup.specs.Naming.{name_on}
use Rattle.base_model.specs.Changes.{tree}
use Rattle.base_model.specs.Rows.{Base}
use Rattle.view_lookup.proofs.NextNames.{Newest, Stands, Alone, few_on, newest_of}
use Rattle.view_lookup.proofs.version_names.name_on.Goals as goal

-- what is known where the newest version and its id were found
found : (b : Base) (branch newest : ℕ) (p : Option VersionId) → latest (tree b) branch None ≡ Some newest
    → version_id (tree b) newest ≡ p → Newest b branch (Some newest) p
found b branch newest p row at =
    subst (λ (o : Option VersionId). Newest b branch (Some newest) o) at
    (subst (λ (o : Option ℕ). Newest b branch o (option_and_then (version_id (tree b)) o)) row (newest_of b branch))

alone : (b : Base) (branch newest : ℕ) → Newest b branch (Some newest) None → element_of_branch (tree b) branch ≡ None
alone b branch newest (Alone row none) = none

stands : (b : Base) (branch newest : ℕ) (p : VersionId) → Newest b branch (Some newest) (Some p)
    → (p.number + 1 ≡ length (versions_on (tree b) branch)) × (element_of_branch (tree b) branch ≡ Some p.element)
stands b branch newest p (Stands row q number element) = (number, element)

pub returns-in-None : goal.returns-in-None
returns-in-None c =
    let b = c.args.rows.now in
    let none = alone b c.args.branch c.in-Some.newest (found b c.args.branch c.in-Some.newest None (sym c.in-Some.ensures)
    (sym c.in-None.ensures)) in
    c.nothing-in-None.ensures ∙ sym (ap (name_on (tree b) c.args.branch) none)

pub overflow_add-version_id : goal.overflow_add-version_id
overflow_add-version_id c =
    let b = c.args.rows.now in
    let is = stands b c.args.branch c.in-Some.newest c.in-Some-version_id_of.version_id
    (found b c.args.branch c.in-Some.newest (Some c.in-Some-version_id_of.version_id) (sym c.in-Some.ensures)
    (sym c.in-Some-version_id_of.ensures)) in
    let number = is.0 in
    let few = few_on b c.args.branch in
    let rows = c.size.ensures.size in
    let limit = c.size.ensures.limit in
    omega (arith, number, few, rows, limit)

pub returns-in_ok-branch-in-Some-version_id_of : goal.returns-in_ok-branch-in-Some-version_id_of
returns-in_ok-branch-in-Some-version_id_of c =
    let b = c.args.rows.now in
    let branch = c.args.branch in
    let is = stands b branch c.in-Some.newest c.in-Some-version_id_of.version_id
    (found b branch c.in-Some.newest (Some c.in-Some-version_id_of.version_id) (sym c.in-Some.ensures)
    (sym c.in-Some-version_id_of.ensures)) in
    let named : c.in_ok-branch-in-Some-version_id_of.branch.items ++ 47 ∷ decimal (c.in-Some-version_id_of.version_id.number + 1)
    ≡ name_on (tree b) branch (element_of_branch (tree b) branch) =
    ap₂ (λ (bytes : List ℕ) n. bytes ++ 47 ∷ decimal n) c.in_ok-branch-in-Some-version_id_of.ensures is.0
    ∙ sym (ap (name_on (tree b) branch) is.1) in
    subst (λ (bytes : List ℕ). IfOk c.name_with_number.result (λ text. text ≡ bytes)) named c.name_with_number.ensures

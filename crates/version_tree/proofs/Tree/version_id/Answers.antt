use Rattle.std.proofs.Common.{◌≡◌, eqb, Some, None, sym, ◌∙◌, arith}
use Rattle.std.specs.Prelude.{find, option_map}
use Rattle.std.proofs.lemmas.Grind.{common_steps}
use Rattle.cc_names.specs.Versions.{branch_of_change, change_at, element_of_branch, number_of_version, versions_on}
use Rattle.version_tree.specs.Branches.{versions_stored}
use Rattle.version_tree.proofs.VersionIds.{version_id_without_element, version_id_found}
use Rattle.version_tree.proofs.Tree.version_id.Goals as goal

-- the branch has no element
pub returns-in_err-element : goal.returns-in_err-element
returns-in_err-element c =
    let change = c.in_ok-change_at.field-0.now in
    let made : change_at c.args.self.now.changes c.args.version ≡ Some change =
    grind (arith, common_steps, c.change_at.ensures, c.in_ok-change_at.was) in
    let none : element_of_branch c.args.self.now.changes (branch_of_change change) ≡ None =
    grind (arith, common_steps, c.element_of.ensures, c.in_err-element.was, c.branch_changed-branch.ensures) in
    c.from_residual-in_err-element.ensures ∙ sym (version_id_without_element c.args.self.now.changes c.args.version change made
    none)

-- the version has all three
pub returns : goal.returns
returns c =
    let change = c.in_ok-change_at.field-0.now in
    let made : change_at c.args.self.now.changes c.args.version ≡ Some change =
    grind (arith, common_steps, c.change_at.ensures, c.in_ok-change_at.was) in
    let belongs : element_of_branch c.args.self.now.changes (branch_of_change change) ≡ Some c.in_ok-element.element =
    grind (arith, common_steps, c.element_of.ensures, c.in_ok-element.was, c.branch_changed-branch.ensures) in
    let kept : versions_stored c.in_ok-branch_at.field-0.now ≡ versions_on c.args.self.now.changes
    c.branch_changed-branch.result =
    grind (arith, common_steps, c.branch_at.ensures.versions, c.in_ok-branch_at.was) in
    let numbers : option_map number_of_version (find (λ v. eqb v.row c.args.version)
    (versions_on c.args.self.now.changes (branch_of_change change))) ≡ Some c.in_ok-number.number =
    rw (← c.branch_changed-branch.ensures, ← kept) (sym c.number_of.ensures ∙ c.in_ok-number.was) in
    rw c.branch_changed-branch.ensures (sym (version_id_found c.args.self.now.changes c.args.version change made
    c.in_ok-element.element c.in_ok-number.number belongs numbers))

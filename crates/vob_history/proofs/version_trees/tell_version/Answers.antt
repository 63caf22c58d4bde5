-- A version is told before what leaves it, and that before the versions after it.
use Rattle.std.proofs.Common.{◌≡◌, ℕ, ◌+◌, ◌<◌, List, ◌++◌, None, Some, length, map, reverse, ap, ap₂, sym, subst, ◌∙◌, arith}
use Rattle.std.specs.Prelude.{slice_get}
use Rattle.std.specs.List.{concat}
use Rattle.std.proofs.lemmas.List.{length-map, length-reverse}
use Rattle.cc_names.specs.Versions.{row_of_version, versions_on}
use Rattle.cc_names.proofs.Common.{drop_past}
use Rattle.base_model.specs.Changes.{tree}
use Rattle.legal_history.specs.Queries.ElementTexts.{branch_lines, branches_leaving, in_brackets, labels_on}
use Rattle.legal_history.specs.Queries.VersionNames.{at_version, line, version_name}
use Rattle.base_rows.proofs.AtIndex.{drop_at, within_at}
use Rattle.vob_history.specs.VersionTrees.{left_lines, row_lines, rows_on, steps_left, steps_of}
use Rattle.vob_history.specs.declared.version_trees.Part.{Part}
use Rattle.vob_history.specs.declared.version_trees.Part.TheVariants.{Branch, Versions}
use Rattle.view_lookup.proofs.NextNames.{few_on}
use Rattle.vob_history.proofs.NumberedVersions.{numbered_at}
use Rattle.vob_history.proofs.TreeParts.{none_fewer, version_fewer, version_is_written}
use Rattle.vob_history.proofs.version_trees.tell_version.Goals as goal

pub returns-in-None-clause-reported : goal.returns-in-None-clause-reported
returns-in-None-clause-reported c = λ e labels.
    let b = c.args.rows.now in
    let rows = rows_on b c.args.branch in
    let none : slice_get rows c.args.number ≡ None = sym (numbered_at b c.args.branch c.args.number)
    ∙ sym c.version_numbered.ensures ∙ c.in-None.is in
    ap (λ (left : List ℕ). c.args.text.now.items ++ (concat (map (row_lines b c.args.path.now e
    (branch_lines c.args.depth b c.args.path.now e)) left) ++ left_lines b c.args.path.now e c.args.left.now.items))
    (sym (drop_past rows c.args.number none))

pub returns-in-None-clause-fewer : goal.returns-in-None-clause-fewer
returns-in-None-clause-fewer c =
    let b = c.args.rows.now in
    let rows = rows_on b c.args.branch in
    let none : slice_get rows c.args.number ≡ None = sym (numbered_at b c.args.branch c.args.number)
    ∙ sym c.version_numbered.ensures ∙ c.in-None.is in
    none_fewer b c.args.left.now.items c.args.depth c.args.branch c.args.number (drop_past rows c.args.number none)

pub overflow_add-number : goal.overflow_add-number
overflow_add-number c =
    let b = c.args.rows.now in
    let branch = c.args.branch in
    let rows = rows_on b branch in
    let one : slice_get rows c.args.number ≡ Some c.in-Some.version = sym (numbered_at b branch c.args.number)
    ∙ sym c.version_numbered.ensures ∙ c.in-Some.is in
    let within = within_at rows c.args.number c.in-Some.version one in
    let many : length rows ≡ length (versions_on (tree b) branch) = length-map (reverse (versions_on (tree b) branch))
    row_of_version ∙ length-reverse (versions_on (tree b) branch) in
    let few = few_on b branch in
    let size = c.size.ensures.size in
    let limit = c.size.ensures.limit in
    omega (arith, within, many, few, size, limit)

pub returns-in_ok-leave_branches-in-Some-clause-reported : goal.returns-in_ok-leave_branches-in-Some-clause-reported
returns-in_ok-leave_branches-in-Some-clause-reported c = λ e labels.
    let b = c.args.rows.now in
    let path = c.args.path.now in
    let text = c.args.text.now.items in
    let version = c.in-Some.version in
    let rows = rows_on b c.args.branch in
    let one : slice_get rows c.args.number ≡ Some version = sym (numbered_at b c.args.branch c.args.number)
    ∙ sym c.version_numbered.ensures ∙ c.in-Some.is in
    let written : c.push_version.new.text.items ≡ text ++ line (at_version path (version_name b version)
    ++ in_brackets (labels_on b e version)) =
    c.in_ok-push_version-in-Some.ensures ∙ ap (λ (own : List (List ℕ)). text
    ++ line (at_version path (version_name b version) ++ in_brackets own)) (labels version) in
    ap₂ (λ (bytes : List ℕ) (parts : List Part). bytes ++ left_lines b path e parts) written
    (c.in_ok-leave_branches-in-Some.ensures ∙ ap (λ (parts : List Part). parts
    ++ map (Branch c.args.depth) (branches_leaving version (tree b))) c.in_ok-push-in-Some.ensures.items)
    ∙ version_is_written b path e text c.args.left.now.items c.args.depth c.args.branch c.args.number version
    (drop_at rows c.args.number version one)

pub returns-in_ok-leave_branches-in-Some-clause-fewer : goal.returns-in_ok-leave_branches-in-Some-clause-fewer
returns-in_ok-leave_branches-in-Some-clause-fewer c =
    let b = c.args.rows.now in
    let left = c.args.left.now.items in
    let version = c.in-Some.version in
    let rows = rows_on b c.args.branch in
    let one : slice_get rows c.args.number ≡ Some version = sym (numbered_at b c.args.branch c.args.number)
    ∙ sym c.version_numbered.ensures ∙ c.in-Some.is in
    subst (λ (parts : List Part). steps_left b parts < steps_of b (Versions c.args.depth c.args.branch c.args.number) + steps_left
    b left)
    (sym (c.in_ok-leave_branches-in-Some.ensures ∙ ap (λ (parts : List Part). parts
    ++ map (Branch c.args.depth) (branches_leaving version (tree b))) c.in_ok-push-in-Some.ensures.items))
    (version_fewer b left c.args.depth c.args.branch c.args.number version (drop_at rows c.args.number version one))

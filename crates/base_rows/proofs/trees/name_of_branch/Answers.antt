-- What one of the first rows made it made of all; a row after them made nothing of theirs.
use Rattle.std.proofs.Common.{◌<◌, ◌≤◌, sym, ap, ◌∙◌, arith}
use Rattle.std.specs.Prelude.{option_and_then}
use Rattle.cc_names.specs.Branches.{name_by, name_of_branch}
use Rattle.base_model.specs.Rows.{size}
use Rattle.base_rows.proofs.FirstTrees.{change_of_first, none_behind}
use Rattle.base_rows.proofs.trees.name_of_branch.Goals as goal

pub returns-then-branch-size : goal.returns-then-branch-size
returns-then-branch-size c =
    let rows = size c.args.rows.now in
    let changes = c.tree-trees.result.now.changes in
    let within : c.args.branch < rows = omega (arith, c.size.ensures.size) in
    c.name.ensures
    ∙ ap (option_and_then name_by) (sym (change_of_first rows c.args.branch changes within))
    ∙ ap (λ cs. name_of_branch cs c.args.branch) c.tree-trees.ensures

pub returns-else-branch-size : goal.returns-else-branch-size
returns-else-branch-size c =
    let rows = size c.args.rows.now in
    let changes = c.tree-trees.result.now.changes in
    let behind : rows ≤ c.args.branch = omega (arith, c.size.ensures.size) in
    ap (option_and_then name_by) (sym (none_behind rows c.args.branch changes behind))
    ∙ ap (λ cs. name_of_branch cs c.args.branch) c.tree-trees.ensures

-- What one of the first rows made it made of all; a row after them made nothing of theirs.
use Rattle.std.proofs.Common.{◌<◌, ◌≤◌, sym, ap, ◌∙◌, arith}
use Rattle.std.specs.Prelude.{option_map}
use Rattle.cc_names.specs.Branches.{branch_of_version}
use Rattle.cc_names.specs.Versions.{branch_of_change}
use Rattle.base_model.specs.Rows.{size}
use Rattle.base_rows.proofs.FirstTrees.{change_of_first, none_behind}
use Rattle.base_rows.proofs.trees.branch_of_version.Goals as goal

pub returns-then-version-size : goal.returns-then-version-size
returns-then-version-size c =
    let rows = size c.args.rows.now in
    let changes = c.tree-trees.result.now.changes in
    let within : c.args.version < rows = omega (arith, c.size.ensures.size) in
    c.branch-trees.ensures
    ∙ ap (option_map branch_of_change) (sym (change_of_first rows c.args.version changes within))
    ∙ ap (λ cs. branch_of_version cs c.args.version) c.tree-trees.ensures

pub returns-else-version-size : goal.returns-else-version-size
returns-else-version-size c =
    let rows = size c.args.rows.now in
    let changes = c.tree-trees.result.now.changes in
    let behind : rows ≤ c.args.version = omega (arith, c.size.ensures.size) in
    ap (option_map branch_of_change) (sym (none_behind rows c.args.version changes behind))
    ∙ ap (λ cs. branch_of_version cs c.args.version) c.tree-trees.ensures

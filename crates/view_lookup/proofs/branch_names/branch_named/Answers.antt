-- The last row that made it.
use Rattle.std.proofs.Common.{◌∙◌}
use Rattle.view_lookup.proofs.BranchesNamed.{branch_by_last}
use Rattle.view_lookup.proofs.branch_names.branch_named.Goals as goal

pub returns : goal.returns
returns c = c.last.ensures ∙ branch_by_last c.args.element c.args.name.now c.args.rows.now

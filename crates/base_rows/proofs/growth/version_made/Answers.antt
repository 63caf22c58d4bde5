-- A version stands on a branch that there is.
use Rattle.std.proofs.Common.{sym, ◌∙◌}
use Rattle.base_model.specs.Changes.{tree}
use Rattle.base_rows.proofs.Growths.{rooted}
use Rattle.base_rows.proofs.growth.version_made.Goals as goal

pub returns-in-Some-branch_of_version-clause-rooted : goal.returns-in-Some-branch_of_version-clause-rooted
returns-in-Some-branch_of_version-clause-rooted c =
    rooted (tree c.args.rows.now) c.in-Some.checkout.origin c.in-Some-branch_of_version.branch (sym c.branch_of_version.ensures
    ∙ c.in-Some-branch_of_version.is)

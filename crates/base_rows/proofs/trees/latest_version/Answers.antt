use Rattle.std.proofs.Common.{ap, ◌∙◌}
use Rattle.cc_names.specs.Versions.{latest, of_first_rows}
use Rattle.base_rows.proofs.trees.latest_version.Goals as goal

pub returns : goal.returns
returns c =
    c.latest.ensures
    ∙ ap (λ n. latest (of_first_rows n c.tree.result.now.changes) c.args.branch c.args.before) c.size.ensures.size
    ∙ ap (λ changes. latest changes c.args.branch c.args.before) c.tree.ensures

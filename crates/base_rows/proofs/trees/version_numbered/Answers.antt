use Rattle.std.proofs.Common.{ap, ◌∙◌}
use Rattle.cc_names.specs.Versions.{version_of_number, of_first_rows}
use Rattle.base_rows.proofs.trees.version_numbered.Goals as goal

pub returns : goal.returns
returns c =
    c.version_of_number.ensures
    ∙ ap (λ n. version_of_number (of_first_rows n c.tree.result.now.changes) c.args.branch c.args.number) c.size.ensures.size
    ∙ ap (λ changes. version_of_number changes c.args.branch c.args.number) c.tree.ensures

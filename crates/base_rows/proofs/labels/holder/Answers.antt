use Rattle.std.proofs.Common.{ap, ◌∙◌}
use Rattle.cc_names.specs.Labels.{holder, labels_of_first_rows}
use Rattle.base_rows.proofs.labels.holder.Goals as goal

pub returns : goal.returns
returns c =
    let label = c.args.label.now in
    c.at.ensures
    ∙ ap (λ n. holder (labels_of_first_rows n c.labels.result.now.changes) label c.args.element) c.size.ensures.size
    ∙ c.labels.ensures label c.args.element

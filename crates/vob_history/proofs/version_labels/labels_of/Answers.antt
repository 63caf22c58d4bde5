-- The labels that stand on versions of the element are all.
use Rattle.std.proofs.Common.{List, [], map, ap, ◌∙◌}
use Rattle.label_book.specs.Standings.{plain}
use Rattle.label_book.specs.declared.element_labels.Standing.{Standing}
use Rattle.vob_history.specs.LabelSets.{with_standing}
use Rattle.vob_history.proofs.LabelsFound.{labels_found}
use Rattle.vob_history.proofs.version_labels.labels_of.Goals as goal

pub returns : goal.returns
returns c = λ version.
    c.in_ok-by_versions.ensures version
    ∙ ap (λ (found : List Standing). with_standing version (map plain found) []) c.deref.ensures.value
    ∙ labels_found c.args.rows.now c.args.element version _ c.are_base.ensures c.in_ok-standing.ensures

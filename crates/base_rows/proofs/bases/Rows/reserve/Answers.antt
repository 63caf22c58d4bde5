-- The changes of each label on each element are kept.
use Rattle.std.proofs.Common.{rules, reverse}
use Rattle.base_model.specs.Changes.{labels}
use Rattle.base_rows.specs.Labelling.{AreLabels}
use Rattle.base_rows.proofs.Labellings.{same_twice}
use Rattle.base_rows.proofs.bases.Rows.reserve.Goals as goal

pub invariant_of-self-in_err-reserve_labels : goal.invariant_of-self-in_err-reserve_labels
invariant_of-self-in_err-reserve_labels c =
    let labelled : AreLabels c.reserve_labels.new.book.changes (labels (reverse c.self.inside.rows.items)) =
    same_twice _ _ _ (record { pairs = c.reserve_labels.ensures.kept.pairs }) c.self.invariant.labelled in
    search rules

pub invariant_of-self-in_err-reserve-2 : goal.invariant_of-self-in_err-reserve-2
invariant_of-self-in_err-reserve-2 c =
    let labelled : AreLabels c.reserve_labels.new.book.changes (labels (reverse c.self.inside.rows.items)) =
    same_twice _ _ _ (record { pairs = c.reserve_labels.ensures.kept.pairs }) c.self.invariant.labelled in
    search rules

pub invariant_of-self-in_err-reserve-3 : goal.invariant_of-self-in_err-reserve-3
invariant_of-self-in_err-reserve-3 c =
    let labelled : AreLabels c.reserve_labels.new.book.changes (labels (reverse c.self.inside.rows.items)) =
    same_twice _ _ _ (record { pairs = c.reserve_labels.ensures.kept.pairs }) c.self.invariant.labelled in
    search rules

pub invariant_of-self-in_err-reserve-4 : goal.invariant_of-self-in_err-reserve-4
invariant_of-self-in_err-reserve-4 c =
    let labelled : AreLabels c.reserve_labels.new.book.changes (labels (reverse c.self.inside.rows.items)) =
    same_twice _ _ _ (record { pairs = c.reserve_labels.ensures.kept.pairs }) c.self.invariant.labelled in
    search rules

pub invariant_of-self-2 : goal.invariant_of-self-2
invariant_of-self-2 c =
    let labelled : AreLabels c.reserve_labels.new.book.changes (labels (reverse c.self.inside.rows.items)) =
    same_twice _ _ _ (record { pairs = c.reserve_labels.ensures.kept.pairs }) c.self.invariant.labelled in
    search rules

-- The changes of all rows are kept, and those of the first ones are theirs.
use Rattle.std.proofs.Common.{◌≡◌, suc, List, reverse, ap, sym, ◌∙◌}
use Rattle.cc_names.specs.Labels.{holder, labels_of_first_rows}
use Rattle.cc_names.specs.declared.changes.LabelChange.{LabelChange}
use Rattle.base_model.specs.Changes.{labels}
use Rattle.base_model.specs.Rows.{Base, first_rows, size}
use Rattle.base_model.proofs.TreesStay.{labels_of_first}
use Rattle.base_rows.specs.Shown.{Shown}
use Rattle.base_rows.proofs.Prefixes.{size_of_first}
use Rattle.base_rows.proofs.Labellings.{holder_stored}
use Rattle.base_rows.proofs.bases.FirstRows.labels.Goals as goal

pub returns : goal.returns
returns c = λ l e.
    let count = c.self.inside.count in
    let all : Base = reverse c.base.inside.rows.items in
    let kept = c.base.inside.labels.changes in
    let first : first_rows (suc count) all ≡ c.args.self.now = ap (λ (shown : Shown). first_rows (suc count) shown.base)
    c.base.view_is ∙ c.self.view_is in
    let rows : size c.args.self.now ≡ suc count = ap (λ (b : Base). size b) (sym c.self.view_is)
    ∙ size_of_first c.self.inside.base.now.base count c.self.invariant.within in
    ap (λ n. holder (labels_of_first_rows n kept) l e) rows
    ∙ holder_stored (suc count) kept (labels all) c.base.invariant.labelled l e
    ∙ ap (λ (changes : List LabelChange). holder changes l e) (labels_of_first all (suc count) ∙ ap labels first)

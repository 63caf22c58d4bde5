-- The changes of all rows are kept, and those of the first ones are theirs.
use Rattle.std.proofs.Common.{◌≡◌, suc, reverse, ap, sym, ◌∙◌, arith}
use Rattle.cc_names.specs.Versions.{of_first_rows}
use Rattle.base_model.specs.Changes.{tree}
use Rattle.base_model.specs.Rows.{Base, first_rows, size}
use Rattle.base_model.proofs.TreesStay.{tree_of_first_rows}
use Rattle.base_rows.specs.Shown.{Shown}
use Rattle.base_rows.proofs.Prefixes.{size_of_first}
use Rattle.base_rows.proofs.bases.FirstRows.tree.Goals as goal

pub returns : goal.returns
returns c =
    let count = c.self.inside.count in
    let all : Base = reverse c.base.inside.rows.items in
    let first : first_rows (suc count) all ≡ c.args.self.now = ap (λ (shown : Shown). first_rows (suc count) shown.base)
    c.base.view_is ∙ c.self.view_is in
    let rows : size c.args.self.now ≡ suc count = ap (λ (b : Base). size b) (sym c.self.view_is)
    ∙ size_of_first c.self.inside.base.now.base count c.self.invariant.within in
    ap (λ n. of_first_rows n c.base.inside.tree.changes) rows
    ∙ ap (of_first_rows (suc count)) c.base.invariant.trees
    ∙ tree_of_first_rows all (suc count) (omega arith)
    ∙ ap tree first

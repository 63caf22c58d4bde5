-- What is kept of as many rows is of these.
use Rattle.std.proofs.Common.{◌≡◌, suc, reverse, ap, sym, ◌∙◌}
use Rattle.base_model.specs.Rows.{Base, first_rows, size}
use Rattle.base_rows.specs.Shown.{Shown}
use Rattle.base_rows.proofs.FilesSeen.{row_seen}
use Rattle.base_rows.proofs.Prefixes.{size_of_first}
use Rattle.base_rows.proofs.bases.FirstRows.seen_file.Goals as goal

pub returns-in-Some : goal.returns-in-Some
returns-in-Some c =
    let v = c.args.view.now in
    let count = c.self.inside.count in
    let all : Base = reverse c.base.inside.rows.items in
    let first : first_rows (suc count) all ≡ c.args.self.now = ap (λ (shown : Shown). first_rows (suc count) shown.base)
    c.base.view_is ∙ c.self.view_is in
    let rows : size c.args.self.now ≡ suc count = ap (λ (b : Base). size b) (sym c.self.view_is)
    ∙ size_of_first c.self.inside.base.now.base count c.self.invariant.within in
    row_seen all c.args.self.now c.size-count.result v c.args.path.now c.in-Some.seen.now c.row_at.result
    (ap (λ n. first_rows n all) (c.size-count.ensures.size ∙ rows) ∙ first)
    (c.base.invariant.seen.each v c.in-Some.seen.now (sym c.in-Some.ensures.value)) c.row_at.ensures

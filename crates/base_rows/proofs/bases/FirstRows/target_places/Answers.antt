-- The targets of one of the first rows are those that it has among all.
use Rattle.std.proofs.Common.{◌≡◌, ◌<◌, suc, reverse, IfSome, ap, sym, subst, ◌∙◌, arith}
use Rattle.base_model.specs.Changes.{targets_of, targets_of_deed}
use Rattle.base_model.specs.Rows.{Base, deed_of, first_rows, size}
use Rattle.base_rows.specs.Shown.{Shown}
use Rattle.base_rows.specs.TargetOrders.{AreOfObject, AreOrdered}
use Rattle.base_rows.proofs.Prefixes.{size_of_first}
use Rattle.base_rows.proofs.SpecsSet.{row_of_first}
use Rattle.base_rows.proofs.bases.FirstRows.target_places.Goals as goal

pub returns : goal.returns
returns c =
    let object = c.args.object in
    let count = c.self.inside.count in
    let all : Base = reverse c.base.inside.rows.items in
    let first : first_rows (suc count) all ≡ c.args.self.now = ap (λ (shown : Shown). first_rows (suc count) shown.base)
    c.base.view_is ∙ c.self.view_is in
    let rows : size c.args.self.now ≡ suc count = ap (λ (b : Base). size b) (sym c.self.view_is)
    ∙ size_of_first c.self.inside.base.now.base count c.self.invariant.within in
    let within : object < suc count = omega (arith, c.size.ensures.size) in
    let same : targets_of all object ≡ targets_of c.args.self.now object =
    ap (λ row. targets_of_deed (deed_of row)) (sym (row_of_first all (suc count) object within))
    ∙ ap (λ (b : Base). targets_of b object) first in
    let kept : AreOfObject all object c.in_ok-places.places.now.items =
    subst (λ found. IfSome found (λ places. AreOfObject all object places.items)) (sym c.in_ok-places.ensures.value)
    (c.base.invariant.ordered object) in
    subst (AreOrdered (targets_of c.args.self.now object)) (sym c.as_slice.ensures.value)
    (subst (λ targets. AreOrdered targets c.in_ok-places.places.now.items) same kept.ordered)

-- What is kept of the view, before and after, is what it sees in the first rows.
use Rattle.std.proofs.Common.{◌≡◌, ap, sym, subst, ◌∙◌}
use Rattle.std.specs.Prelude.{IfOk, IfSome}
use Rattle.base_model.specs.Rows.{Base, first_rows}
use Rattle.base_rows.specs.SeenFiles.{AreSeen, IsSeenIn}
use Rattle.base_rows.specs.Shown.{Shown}
use Rattle.base_rows.proofs.FilesSeen.{made_in, seen_in_each}
use Rattle.view_lookup.proofs.seeing.remember.Goals as goal

pub see_ahead-seen-requires : goal.see_ahead-seen-requires
see_ahead-seen-requires c =
    let base : Base = c.args.base.now.base in
    let v = c.args.view.now in
    let kept = c.take_seen-kept.result in
    let first : c.first_rows.result ≡ first_rows c.args.count base =
    c.first_rows.ensures ∙ ap (λ (b : Base). first_rows c.args.count b) (c.all-2.ensures
    ∙ ap (λ (shown : Shown). shown.base) c.take_seen-kept.ensures.same) in
    subst (λ (rows : Base). IfSome kept (IsSeenIn rows v)) (sym first)
    (seen_in_each base c.args.count v kept c.take_seen-kept.ensures.kept)

pub keep_seen-requires : goal.keep_seen-requires
keep_seen-requires c =
    let base : Base = c.args.base.now.base in
    let v = c.args.view.now in
    let made = c.see_ahead-seen in
    let first : c.first_rows.result ≡ first_rows c.args.count base =
    c.first_rows.ensures ∙ ap (λ (b : Base). first_rows c.args.count b) (c.all-2.ensures
    ∙ ap (λ (shown : Shown). shown.base) c.take_seen-kept.ensures.same) in
    let each = made_in base c.first_rows.result c.args.count v made.result first made.ensures.name made.ensures.count
    made.ensures.files in
    let one : AreSeen base c.in-Ok.seen.0 c.in-Ok.seen.1 = subst (λ found. IfOk found (λ it. AreSeen base it.0 it.1)) c.in-Ok.is
    each in
    subst (λ (shown : Shown). AreSeen shown.base c.in-Ok.seen.0 c.in-Ok.seen.1) (sym c.take_seen-kept.ensures.same) one

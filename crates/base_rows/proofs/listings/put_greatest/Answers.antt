-- The greater of the version and the one that stands there is put.
use Rattle.std.proofs.Common.{◌≡◌, Some, cond, ap, ◌∙◌}
use Rattle.std.specs.BTreeMap.{get}
use Rattle.std.specs.Ordering.{is_eq, nat_cmp}
use Rattle.base_model.specs.Closures.{greater_of}
use Rattle.base_rows.proofs.JoinedListings.{one_put_in}
use Rattle.base_rows.proofs.listings.put_greatest.Goals as goal

pub returns : goal.returns
returns c = λ e.
    let old = c.args.versions.now in
    let greatest : c.greater_of-greatest.result ≡ greater_of c.args.version (get nat_cmp old c.args.element) =
    c.greater_of-greatest.ensures ∙ ap (greater_of c.args.version) (c.copied.ensures ∙ c.get.ensures.value) in
    c.in_ok-insert.ensures.updates.0 e
    ∙ ap (λ n. cond (is_eq (nat_cmp c.args.element e)) (Some n) (get nat_cmp old e)) greatest
    ∙ one_put_in (get nat_cmp old) e c.args.version c.args.element

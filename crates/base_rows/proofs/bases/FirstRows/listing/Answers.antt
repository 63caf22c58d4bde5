-- What the record of one of the first rows lists it lists among all.
use Rattle.std.proofs.Common.{◌≡◌, ◌<◌, suc, reverse, IfSome, ap, sym, subst, ◌∙◌, arith}
use Rattle.base_model.specs.Closures.{listing}
use Rattle.base_model.specs.Rows.{Base, first_rows, size}
use Rattle.base_rows.specs.Listings.{HasListing, IsListed}
use Rattle.base_rows.specs.Shown.{Shown}
use Rattle.base_rows.proofs.ListingsStay.{listed_first}
use Rattle.base_rows.proofs.Prefixes.{size_of_first}
use Rattle.base_rows.proofs.bases.FirstRows.listing.Goals as goal

pub returns : goal.returns
returns c =
    let object = c.args.object in
    let count = c.self.inside.count in
    let all : Base = reverse c.base.inside.rows.items in
    let first : first_rows (suc count) all ≡ c.args.self.now = ap (λ (shown : Shown). first_rows (suc count) shown.base)
    c.base.view_is ∙ c.self.view_is in
    let rows : size c.args.self.now ≡ suc count = ap (λ (b : Base). size b) (sym c.self.view_is)
    ∙ size_of_first c.self.inside.base.now.base count c.self.invariant.within in
    let within : object < suc count = omega (arith, c.size.ensures.size) in
    let kept : IfSome c.in_ok-listed.listed.now (λ map. IsListed all object map.entries) =
    subst (λ found. IfSome found (λ listed. IfSome listed (λ map. IsListed all object map.entries)))
    (sym c.in_ok-listed.ensures.value) (c.base.invariant.listed object) in
    subst (λ found. IfSome found (λ versions. HasListing versions.entries (listing c.args.self.now object)))
    (sym c.as_ref.ensures.value)
    (subst (λ (b : Base). IfSome c.in_ok-listed.listed.now (λ map. HasListing map.entries (listing b object))) first
    (listed_first all (suc count) object c.in_ok-listed.listed.now c.base.invariant.fitting within kept))

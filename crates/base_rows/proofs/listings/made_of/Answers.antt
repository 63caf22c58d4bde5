-- What one of the rows lists is the same before a row is added.
use Rattle.std.proofs.Common.{◌<◌, ap, sym, ◌∙◌, arith}
use Rattle.std.specs.FinMap.Entries.{find}
use Rattle.std.specs.Ordering.{nat_cmp}
use Rattle.base_model.specs.Rows.{size}
use Rattle.base_rows.proofs.ListingsStay.{listing_older}
use Rattle.base_rows.proofs.listings.made_of.Goals as goal

pub returns : goal.returns
returns c = λ deed.
    let b = c.args.rows.now in
    let object = c.args.object in
    let low : object < size b = omega (arith, c.size.ensures.size) in
    record {
      within = omega arith;
      lists = λ e. c.in_ok-listing.ensures e ∙ ap (find nat_cmp e) (sym (listing_older b deed object low));
    }

-- What an object lists is what the entries of its record list.
use Rattle.std.proofs.Common.{IfOk, ap, sym, subst, ◌∙◌}
use Rattle.base_model.specs.Closures.{Listing, closure, inputs_of, listing_of}
use Rattle.base_rows.specs.Listings.{HasListing}
use Rattle.base_rows.proofs.LeftListings.{listing_by_record}
use Rattle.base_rows.proofs.listings.listing.Goals as goal

pub returns : goal.returns
returns c =
    let b = c.args.rows.now in
    subst (λ (listing : Listing). IfOk c.listing_of.result (λ versions. HasListing versions.entries listing))
    (ap (λ entries. listing_of b (inputs_of b (closure b) entries)) c.record_of.ensures
    ∙ sym (listing_by_record b c.args.object c.size.ensures.base)) c.listing_of.ensures

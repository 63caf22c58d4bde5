-- The record of a publish is the next object's; what rules name is there already, or comes later.
use Rattle.std.proofs.Common.{◌≡◌, Some, ap, sym, ◌∙◌}
use Rattle.std.proofs.lemmas.Result.{IfOk-weaker}
use Rattle.std.specs.List.{AllByRecursion}
use Rattle.cc_names.specs.declared.rows.Deed.{Deed}
use Rattle.base_model.specs.Closures.{entries_of_deed}
use Rattle.base_rows.specs.Listings.{IsMadeWith}
use Rattle.base_rows.proofs.listings.listings_made.Goals as goal

pub returns-in-Publish : goal.returns-in-Publish
returns-in-Publish c =
    let b = c.args.rows.now in
    let entries = c.as_slice.result.now in
    let same : entries_of_deed (Some c.args.deed.now) ≡ entries =
    ap (λ (deed : Deed). entries_of_deed (Some deed)) c.in-Publish.is ∙ sym c.as_slice.ensures in
    IfOk-weaker c.next_listing.result
    (λ made. (deed : Deed) → entries_of_deed (Some deed) ≡ entries → AllByRecursion (IsMadeWith b deed) made.items)
    (λ made. AllByRecursion (IsMadeWith b c.args.deed.now) made.items) (λ made h. h c.args.deed.now same) c.next_listing.ensures

pub returns-in_default : goal.returns-in_default
returns-in_default c =
    let b = c.args.rows.now in
    IfOk-weaker c.named_listings.result (λ made. (deed : Deed) → AllByRecursion (IsMadeWith b deed) made.items)
    (λ made. AllByRecursion (IsMadeWith b c.args.deed.now) made.items) (λ made h. h c.args.deed.now) c.named_listings.ensures

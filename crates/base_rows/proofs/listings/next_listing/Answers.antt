-- What the object of the next row lists is what its record does.
use Rattle.std.proofs.Common.{◌≡◌, ◌++◌, ◌∷◌, [], Some, List, ap, sym, subst, ◌∙◌, arith}
use Rattle.std.specs.FinMap.Entries.{find}
use Rattle.std.specs.List.{AllByRecursion}
use Rattle.std.specs.Ordering.{nat_cmp}
use Rattle.base_model.specs.Closures.{closure, inputs_of, listing_of}
use Rattle.base_rows.specs.Listings.{IsMadeWith, listing_with}
use Rattle.base_rows.specs.declared.listings.MadeListing.{MadeListing}
use Rattle.base_rows.proofs.ListingsStay.{listing_next}
use Rattle.base_rows.proofs.listings.next_listing.Goals as goal

pub returns : goal.returns
returns c = λ deed same.
    let b = c.args.rows.now in
    let one : MadeListing = record { object = c.size-object.result; versions = Some c.in_ok-listing_of.field-0 } in
    let items : c.push.new.self.items ≡ one ∷ [] = c.in_ok-push.ensures.items
    ∙ ap (λ (made : List MadeListing). made ++ one ∷ []) c.new-made.ensures.items in
    subst (AllByRecursion (IsMadeWith b deed)) (sym items) (
      record {
        within = omega (arith, c.size-object.ensures.size);
        lists = λ e. c.in_ok-listing_of.ensures e ∙ ap (find nat_cmp e)
            (ap (λ entries. listing_of b (inputs_of b (closure b) entries)) (sym same)
            ∙ sym (ap (listing_with b deed) c.size-object.ensures.size ∙ listing_next b deed));
      },
      tt,
    )

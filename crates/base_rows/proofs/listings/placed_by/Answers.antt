-- What is made of the object is what its record lists.
use Rattle.std.proofs.Common.{◌≡◌, ◌≤◌, List, ap, sym, subst, map, ◌∙◌, arith}
use Rattle.std.proofs.lemmas.Result.{IfOk-weaker}
use Rattle.std.specs.List.Sorted.{IsStrictlySortedBy}
use Rattle.std.specs.Ordering.{nat_cmp}
use Rattle.cc_names.specs.Formed.{IsListOf, IsPlaced, element_of}
use Rattle.cc_names.specs.declared.rows.Placed.{Placed}
use Rattle.base_model.specs.Closures.{Listing, as_placed, placed_by}
use Rattle.base_model.specs.Rows.{size}
use Rattle.base_rows.proofs.StoredListings.{stored_listing}
use Rattle.base_rows.proofs.PlacedForms.{placed_formed}
use Rattle.base_rows.proofs.listings.placed_by.Goals as goal

pub returns : goal.returns
returns c =
    let b = c.args.rows.now in
    let limit : size b ≤ 4000000 = omega (arith, c.size.ensures) in
    let versions = c.in_ok-versions.versions in
    let kept = ap (λ (entries : Listing). map as_placed entries) (stored_listing versions.entries b c.args.object
    c.places_of.ensures.ordered c.in_ok-versions.ensures) in
    record {
      placed = IfOk-weaker c.places_of.result (λ placed. placed.items ≡ map as_placed versions.entries)
          (λ placed. placed.items ≡ placed_by b c.args.object) (λ placed is. is ∙ kept) c.places_of.ensures.placed;
      formed = IfOk-weaker c.places_of.result (λ placed. placed.items ≡ map as_placed versions.entries)
          (λ placed. IsListOf IsPlaced placed.items × IsStrictlySortedBy nat_cmp (map element_of placed.items))
          (λ placed is. subst (λ (places : List Placed). IsListOf IsPlaced places
          × IsStrictlySortedBy nat_cmp (map element_of places)) (sym (is ∙ kept))
          (placed_formed b c.args.object c.size.ensures.base limit)) c.places_of.ensures.placed;
    }

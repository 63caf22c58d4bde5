-- What was made of one object after the other is kept.
use Rattle.std.proofs.Common.{◌∷◌, [], length, length-append, nat_eq, ap, subst, arith}
use Rattle.std.specs.HashMap.{get}
use Rattle.std.specs.List.{AllByRecursion}
use Rattle.base_rows.specs.Listings.{IsMade}
use Rattle.base_rows.proofs.ListingsStay.{all_but_last, listings_with}
use Rattle.base_rows.proofs.listings.keep_listings.Goals as goal

pub loop-one-preserved : goal.loop-one-preserved
loop-one-preserved c = record {
  room = omega (
    arith,
    c.keep_listing.ensures.spare,
    c.loop-one.invariant.room,
    length-append c.pop.new.self.items (c.in-Some.one ∷ []),
    ap length c.in-Some.ensures.items,
  );
  kept = λ b old all.
      let before = c.loop-one.invariant.kept b old all in
      let split = all_but_last (IsMade b) c.pop.new.self.items c.in-Some.one (subst (AllByRecursion (IsMade b))
      c.in-Some.ensures.items before.1) in (
        listings_with b (get nat_eq c.loop-one.listings) (get nat_eq c.keep_listing.new.listings) c.in-Some.one
            c.keep_listing.ensures.updates split.1 before.0,
        split.0,
      );
}

pub returns : goal.returns
returns c = λ b old all. (c.loop-one.invariant.kept b old all).0

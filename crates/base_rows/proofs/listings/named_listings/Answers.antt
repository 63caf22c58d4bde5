-- One object after the other has what is to be kept made.
use Rattle.std.proofs.Common.{sym, subst}
use Rattle.std.specs.List.{AllByRecursion}
use Rattle.base_rows.specs.Listings.{IsMadeWith}
use Rattle.base_rows.proofs.ListingsStay.{all_and_last}
use Rattle.base_rows.proofs.listings.named_listings.Goals as goal

pub loop-object-init : goal.loop-object-init
loop-object-init c = λ deed. subst (AllByRecursion (IsMadeWith c.args.rows.now deed)) (sym c.new-made.ensures.items) tt

pub loop-object-preserved : goal.loop-object-preserved
loop-object-preserved c = λ deed.
    let P = IsMadeWith c.args.rows.now deed in
    subst (AllByRecursion P) (sym c.in_ok-push.ensures.items)
    (all_and_last P c.loop-object.made.items c.in_ok-one.one (c.loop-object.invariant deed) (c.in_ok-one.ensures deed))

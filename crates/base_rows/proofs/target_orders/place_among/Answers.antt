-- The search finds the place of the path, or shows that it is no target.
use Rattle.std.proofs.Common.{rules}
use Rattle.std.specs.Cmp.Lexicographic.{slice_cmp}
use Rattle.std.specs.Ordering.{nat_cmp}
use Rattle.std.proofs.lemmas.Fn.{always_returns_same}
use Rattle.base_rows.specs.TargetOrders.{target_at}
use Rattle.base_rows.proofs.TargetOrders.{found_nowhere, found_there}
use Rattle.base_rows.proofs.target_orders.place_among.Goals as goal

pub returns-in-Ok : goal.returns-in-Ok
returns-in-Ok c =
    let targets = c.args.targets.now in
    let path = c.args.path.now in
    found_there targets c.args.places.now path c.in-Ok.index 0 c.requires c.in-Ok.ensures.bound
    (c.in-Ok.ensures.position (λ place. slice_cmp nat_cmp (target_at targets place) path)
    (always_returns_same _ _ _ (λ a r f called. search rules)) 0)

pub returns-in-Err : goal.returns-in-Err
returns-in-Err c =
    let targets = c.args.targets.now in
    let path = c.args.path.now in
    found_nowhere targets c.args.places.now path c.in-Err.field-0 c.requires c.in-Err.ensures.bound
    (c.in-Err.ensures.position (λ place. slice_cmp nat_cmp (target_at targets place) path)
    (always_returns_same _ _ _ (λ a r f called. search rules)))

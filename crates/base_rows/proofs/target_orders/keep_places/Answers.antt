-- The map has the places of the object's targets, and of each other object those that it had.
use Rattle.std.proofs.Common.{nat_eq, ap, sym, ◌∙◌}
use Rattle.std.specs.HashMap.{get}
use Rattle.base_rows.specs.TargetOrders.{with_order}
use Rattle.base_rows.proofs.TargetOrders.{kept_with}
use Rattle.base_rows.proofs.target_orders.keep_places.Goals as goal

pub returns-in-None : goal.returns-in-None
returns-in-None c = λ q. ap (λ places. with_order c.args.object places (get nat_eq c.args.orders.now) q) (sym c.in-None.is)

pub returns-in-Ok : goal.returns-in-Ok
returns-in-Ok c = λ q.
    c.in-Ok.ensures.updates.0 q
    ∙ kept_with c.args.object c.in-Some.places (get nat_eq c.args.orders.now) q
    ∙ ap (λ places. with_order c.args.object places (get nat_eq c.args.orders.now) q) (sym c.in-Some.is)

-- the next of the lanes that are left begins
use Rattle.std.proofs.Common.{◌∙◌, sym, ap, ◌++◌}
use Rattle.base_core.specs.Keeping.Lanes.{fresh_lanes}
use Rattle.base_core.proofs.Keeping.Beginning.{more_lanes, next_lane}
use Rattle.base_core.proofs.lanes.Lanes.begin.Goals as goal

pub each-preserved : goal.each-preserved
each-preserved c =
    more_lanes c.args.phase.now.lanes c.each.lanes.items c.in-Some.lane c.next.new.self c.each.left c.in_ok-new.field-0
    c.each.invariant
    (next_lane c.in_ok-lane.field-0 c.in-Some.lane c.each.left c.next.new.self c.in_ok-lane.ensures.ok c.in-Some.is)
    c.in_ok-new.ensures
    ∙ ap (λ v. v ++ fresh_lanes c.next.new.self) (sym c.in_ok-push.ensures.items)

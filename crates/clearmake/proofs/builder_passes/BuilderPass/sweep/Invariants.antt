use Rattle.std.proofs.Common.{◌-◌, ◌≤◌}
use Rattle.clearmake.specs.Passes.{AreDone, IsLaterOfBuilder}
use Rattle.clearmake.proofs.builder_passes.BuilderPass.sweep.Given as goal

-- the units so far have their outcomes
abbrev pub invariant-loop-next : goal.invariant-loop-next
invariant-loop-next g l = IsLaterOfBuilder l.fn.self l.pass × AreDone l.pass.pass.seen l.pass.tag l.pass.count l.next
    × (l.next ≤ l.pass.count)

abbrev pub decreases-loop-next : goal.decreases-loop-next
decreases-loop-next g l = l.pass.count - l.next

-- what is planned is what is decided of the lane's next command
use Rattle.std.proofs.Common.{ap, ◌∙◌, arith}
use Rattle.base_model.specs.Rows.{size}
use Rattle.legal_history.specs.Builds.Active.{building}
use Rattle.legal_history.specs.Stories.States.{next_tag}
use Rattle.legal_history.specs.Stories.Steps.{state_of}
use Rattle.base_core.proofs.Building.PlanSteps.{plans_so}
use Rattle.base_core.proofs.Building.UnitCalls.{builds_waits}
use Rattle.base_core.proofs.core_value.Core.plan.Goals as goal

pub occasion-occasion-requires : goal.occasion-occasion-requires
occasion-occasion-requires g c = builds_waits (state_of c.args.self.now.story) c.args.lane
    (next_tag (state_of c.args.self.now.story) c.args.lane) c.requires.builds

pub plan_build-requires-clause-rows : goal.plan_build-requires-clause-rows
plan_build-requires-clause-rows g c = omega (arith, c.occasion-occasion.ensures.taken, ap size c.rows.ensures)

pub returns : goal.returns
returns g c =
    plans_so (state_of c.args.self.now.story) c.args.lane c.occasion-occasion.result.taken c.occasion-occasion.result.tag
    c.in_ok-asked.asked c.in_ok-asked.asked.view c.rows.result c.occasion-occasion.result.busy c.plan_build.result
    c.requires.builds c.requires.free c.in_ok-asked.ensures.next c.occasion-occasion.ensures.tag c.rows.ensures
    (c.occasion-occasion.ensures.busy ∙ ap (building (state_of c.args.self.now.story).active) c.as_bytes.ensures.bytes)
    c.occasion-occasion.ensures.taken (λ scene meets. c.plan_build.ensures.planned scene meets) c.plan_build.ensures.formed
    c.plan_build.ensures.room

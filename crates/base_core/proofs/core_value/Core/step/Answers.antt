-- what comes next for a unit of a lane's build
use Rattle.std.proofs.Common.{◌≡◌, ◌<◌, length, sym, subst, ◌∙◌, arith}
use Rattle.build_core.specs.UnitSteps.{IsUnitStep}
use Rattle.legal_history.specs.Stories.Steps.{state_of}
use Rattle.base_core.specs.Calls.BuildCalls.{StepsTo}
use Rattle.base_core.proofs.Building.FoundBuilds.{if_ok}
use Rattle.story_log.proofs.Cases.{some_same}
use Rattle.base_core.proofs.Building.StepsSo.{steps_so}
use Rattle.base_core.proofs.core_value.Core.step.Goals as goal

pub returns : goal.returns
returns g c =
    let is : c.requires.1.build ≡ c.build_at.result.now = some_same c.requires.1.build c.build_at.result.now
    (sym c.requires.1.active ∙ c.build_at.ensures.active) in
    if_ok c.step.result (IsUnitStep c.rows.result c.build_at.result.now c.args.unit)
    (StepsTo (state_of c.args.self.now.story) c.args.lane c.args.unit)
    (λ next so. steps_so (state_of c.args.self.now.story) c.rows.result c.args.lane c.args.unit c.build_at.result.now next
    c.build_at.ensures.kept c.build_at.ensures.active
    (subst (λ b. c.args.unit < length b.units) is (omega (arith, c.requires.2, c.requires.1.of_units)))
    (c.a_build_is_consistent.ensures c.args.self.now.story c.args.lane c.build_at.result.now c.build_at.ensures.legal
    c.build_at.ensures.active) (sym c.rows.ensures) so)
    c.step.ensures

-- the row of what a unit's run gave is the one that it publishes
use Rattle.std.proofs.Common.{◌≡◌, Some, ap, sym, subst, ◌∙◌}
use Rattle.build_core.specs.Publishing.{IsPublishOf}
use Rattle.legal_history.specs.Builds.Active.{came_to, unit_at}
use Rattle.legal_history.specs.Builds.Choices.{publish_of}
use Rattle.legal_history.specs.Builds.Consistency.{IsConsistent}
use Rattle.legal_history.specs.Builds.Reuse.{reusable}
use Rattle.legal_history.specs.Stories.Steps.{state_of}
use Rattle.base_core.specs.Calls.BuildCalls.{IsObjectRow}
use Rattle.base_core.proofs.Building.FoundBuilds.{if_ok}
use Rattle.story_log.proofs.Cases.{some_same}
use Rattle.base_core.proofs.core_value.Core.object_row.Goals as goal

pub publish_row-requires-clause-formed : goal.publish_row-requires-clause-formed
publish_row-requires-clause-formed g c =
    λ it is. c.a_unit_may_publish.ensures c.rows.result c.build_at.result.now c.args.unit it c.build_at.ensures.kept.formed.named
    c.build_at.ensures.kept.formed.units
    (subst (λ b. IsConsistent b c.build_at.result.now) (sym c.rows.ensures)
    (c.a_build_is_consistent.ensures c.args.self.now.story c.args.lane c.build_at.result.now c.build_at.ensures.legal
    c.build_at.ensures.active)) is

pub returns : goal.returns
returns g c =
    let is : c.requires.run.build ≡ c.build_at.result.now = some_same c.requires.run.build c.build_at.result.now
    (sym c.requires.run.active ∙ c.build_at.ensures.active) in
    let is_unit : unit_at c.build_at.result.now c.args.unit ≡ Some c.requires.run.unit = ap (λ b. unit_at b c.args.unit) (sym is)
    ∙ c.requires.run.is_unit in
    if_ok c.publish_row.result (IsPublishOf c.rows.result c.build_at.result.now c.args.unit c.requires.run.unit
    c.self.inside.moment) (IsObjectRow (state_of c.args.self.now.story) c.args.lane c.args.unit)
    (λ row p. record {
      build = c.build_at.result.now;
      active = c.build_at.ensures.active;
      unit = c.requires.run.unit;
      is_unit = is_unit;
      started = ap (λ b. came_to b c.args.unit) (sym is) ∙ c.requires.run.started;
      of_tag = p.tag ∙ c.build_at.ensures.kept.tag;
      at_moment = p.made ∙ sym (ap (λ v. (state_of v.story).moment) (sym c.self.view_is) ∙ c.self.invariant.phase.moment);
      nothing = ap (λ b. reusable (state_of c.args.self.now.story).base b c.args.unit c.requires.run.unit) (sym is)
          ∙ c.requires.nothing;
      made = ap (λ b. publish_of b c.build_at.result.now c.args.unit c.requires.run.unit) (sym c.rows.ensures) ∙ p.deed;
    })
    (c.publish_row.ensures c.requires.run.unit is_unit)

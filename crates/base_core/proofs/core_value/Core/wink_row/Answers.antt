-- the row by which a build's view winks in an object
use Rattle.std.proofs.Common.{◌≡◌, ap, sym, ◌∙◌}
use Rattle.cc_names.specs.Formed.{Plain}
use Rattle.cc_names.specs.declared.rows.Deed.TheVariants as deeds
use Rattle.legal_history.specs.Stories.Steps.{state_of}
use Rattle.base_core.specs.Calls.BuildCalls.{IsWinkRow}
use Rattle.base_core.proofs.Building.FoundBuilds.{if_ok}
use Rattle.story_log.proofs.Cases.{some_same}
use Rattle.base_core.proofs.core_value.Core.wink_row.Goals as goal

pub returns : goal.returns
returns g c =
    let is : c.requires.build ≡ c.build_at.result.now = some_same c.requires.build c.build_at.result.now (sym c.requires.active
    ∙ c.build_at.ensures.active) in
    if_ok c.wink_row.result (λ (row : Plain). row ≡ record {
      tag = c.build_at.result.now.tag;
      moment = c.self.inside.moment;
      deed = deeds.Wink c.build_at.result.now.view c.args.object;
    }) (IsWinkRow (state_of c.args.self.now.story) c.args.lane
    c.args.unit c.args.object)
    (λ row e. record {
      may = c.requires;
      of_tag = ap (λ r. r.tag) e ∙ c.build_at.ensures.kept.tag;
      at_moment = ap (λ r. r.moment) e ∙ sym (ap (λ v. (state_of v.story).moment) (sym c.self.view_is)
          ∙ c.self.invariant.phase.moment);
      winks = ap (λ r. r.deed) e ∙ ap (λ b. deeds.Wink b.view c.args.object) (sym is);
    })
    c.wink_row.ensures

-- a unit whose run gave outputs is given an object
use Rattle.std.proofs.Common.{◌≡◌, ◌<◌, Option, Some, length, ap, sym, subst, ◌∙◌, ℕ}
use Rattle.std.proofs.lemmas.Option.{slice_get_within}
use Rattle.legal_history.specs.Builds.Active.{unit_at}
use Rattle.legal_history.specs.Builds.Reuse.{reusable}
use Rattle.legal_history.specs.Stories.Steps.{state_of}
use Rattle.base_core.proofs.Building.FoundBuilds.{finds_so, found_is}
use Rattle.story_log.proofs.Cases.{some_same}
use Rattle.base_core.proofs.core_value.Core.give_object.Goals as goal

pub reusable-requires : goal.reusable-requires
reusable-requires g c =
    let is : c.requires.build ≡ c.build_at.result.now = some_same c.requires.build c.build_at.result.now (sym c.requires.active
    ∙ c.build_at.ensures.active) in
    record {
      unit = subst (λ b. c.args.unit < length b.units) is (slice_get_within c.requires.build.units c.args.unit
          c.requires.unit c.requires.is_unit);
    }

pub wink-requires : goal.wink-requires
wink-requires g c =
    let is : c.requires.build ≡ c.build_at.result.now = some_same c.requires.build c.build_at.result.now (sym c.requires.active
    ∙ c.build_at.ensures.active) in
    let is_unit : unit_at c.build_at.result.now c.args.unit ≡ Some c.requires.unit = ap (λ b. unit_at b c.args.unit) (sym is)
    ∙ c.requires.is_unit in
    let found : c.in_ok-found.found ≡ reusable c.rows.result c.build_at.result.now c.args.unit c.requires.unit =
    found_is c.reusable.result c.in_ok-found.found (λ (o : Option ℕ). o
    ≡ reusable c.rows.result c.build_at.result.now c.args.unit c.requires.unit) c.in_ok-found.was
    (c.reusable.ensures c.requires.unit is_unit) in
    let chosen : reusable (state_of c.args.self.now.story).base c.requires.build c.args.unit c.requires.unit
    ≡ Some c.in-Some.object =
    ap (λ b. reusable b c.requires.build c.args.unit c.requires.unit) (sym c.rows.ensures)
    ∙ ap (λ b. reusable c.rows.result b c.args.unit c.requires.unit) is ∙ sym found ∙ c.in-Some.is in
    finds_so c.args.self.now.story c.args.lane c.args.unit c.in-Some.object _ c.build_at.ensures.legal
    c.what_is_found_after_the_start_is_not_held.ensures c.requires chosen

pub publish-requires : goal.publish-requires
publish-requires g c =
    let is : c.requires.build ≡ c.build_at.result.now = some_same c.requires.build c.build_at.result.now (sym c.requires.active
    ∙ c.build_at.ensures.active) in
    let is_unit : unit_at c.build_at.result.now c.args.unit ≡ Some c.requires.unit = ap (λ b. unit_at b c.args.unit) (sym is)
    ∙ c.requires.is_unit in
    let found : c.in_ok-found.found ≡ reusable c.rows.result c.build_at.result.now c.args.unit c.requires.unit =
    found_is c.reusable.result c.in_ok-found.found (λ (o : Option ℕ). o
    ≡ reusable c.rows.result c.build_at.result.now c.args.unit c.requires.unit) c.in_ok-found.was
    (c.reusable.ensures c.requires.unit is_unit) in
    record {
      run = c.requires;
      nothing = ap (λ b. reusable b c.requires.build c.args.unit c.requires.unit) (sym c.rows.ensures)
          ∙ ap (λ b. reusable c.rows.result b c.args.unit c.requires.unit) is ∙ sym found ∙ c.in-None.is;
    }

-- the decision on a lane's next command is that of its state
use Rattle.std.proofs.Common.{◌≡◌, None, ap, sym, subst, ◌∙◌, arith}
use Rattle.cc_names.specs.Commands.{view_of}
use Rattle.base_model.specs.Rows.{size}
use Rattle.legal_history.specs.Builds.Active.{build_of, building}
use Rattle.legal_history.specs.Stories.Lawful.{Legal}
use Rattle.legal_history.specs.Stories.Steps.{state_of}
use Rattle.clearmake.specs.Nexts.{next_of_lane}
use Rattle.base_core.proofs.Keeping.Idle.{acting_is_free}
use Rattle.base_core.proofs.Acting.NextCommands.{decided_so}
use Rattle.base_core.proofs.Building.UnitCalls.{acts_waits}
use Rattle.base_core.proofs.core_value.Core.decide.Goals as goal

pub occasion-occasion-requires : goal.occasion-occasion-requires
occasion-occasion-requires g c = acts_waits (state_of c.args.self.now.story) c.args.lane c.requires.act

pub decide-requires-clause-rows : goal.decide-requires-clause-rows
decide-requires-clause-rows g c =
    let same = ap (λ v. v.story) c.self.view_is in
    let base : c.rows.result ≡ (state_of c.args.self.now.story).base =
    c.rows.ensures ∙ sym c.self.invariant.story.base ∙ ap (λ t. (state_of t).base) same in
    omega (arith, c.occasion-occasion.ensures.taken, ap size base)

pub returns : goal.returns
returns g c =
    let same = ap (λ v. v.story) c.self.view_is in
    let free : build_of (state_of c.args.self.now.story).active c.args.lane ≡ None =
    subst (λ t. build_of (state_of t).active c.args.lane ≡ None) same
    (acting_is_free c.self.inside.log c.self.inside.lanes c.self.inside.moment c.args.lane c.self.invariant
    (ap (λ t. next_of_lane (state_of t) c.args.lane) same ∙ c.requires.act)) in
    decided_so c.args.self.now.story c.args.lane c.occasion-occasion.result c.args.change.now (view_of c.args.change.now)
    c.rows.result c.decide.result
    (subst Legal same c.self.invariant.story.legal) free
    c.requires.command c.occasion-occasion.ensures.tag c.occasion-occasion.ensures.moment (c.rows.ensures
    ∙ sym c.self.invariant.story.base ∙ ap (λ t. (state_of t).base) same)
    (c.occasion-occasion.ensures.busy ∙ ap (building (state_of c.args.self.now.story).active) c.view_of.ensures)
    c.occasion-occasion.ensures.taken
    (λ scene sees. c.decide.ensures scene sees)

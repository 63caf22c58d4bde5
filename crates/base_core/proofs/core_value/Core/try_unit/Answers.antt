-- a unit is tried by the core as it was
use Rattle.std.proofs.Common.{◌<◌, ℕ, sym, subst, ◌∙◌}
use Rattle.std.specs.Prelude.{IfOk}
use Rattle.legal_history.specs.Stories.Steps.{state_of}
use Rattle.clearmake.specs.Calls.{IsBuilding, Tries}
use Rattle.clearmake.specs.Going.{HasOutcome}
use Rattle.base_core.specs.Story.Counted.{KeepsCount}
use Rattle.base_core.specs.Story.Shown.{Shown}
use Rattle.base_core.proofs.core_value.Core.try_unit.Goals as goal

pub take_step-requires : goal.take_step-requires
take_step-requires g c =
    subst (λ (shown : Shown). (count : ℕ) × IsBuilding (state_of shown.story) c.args.lane count
    × (c.args.unit < count)) (sym c.look_ahead.ensures) c.requires

pub returns-clause-ok : goal.returns-clause-ok
returns-clause-ok g c =
    subst (λ (shown : Shown). IfOk c.take_step.result (λ turn. Tries shown.story c.take_step.new.self.story c.args.lane
    c.args.unit turn)) c.look_ahead.ensures c.take_step.ensures.ok

pub returns-clause-counted : goal.returns-clause-counted
returns-clause-counted g c = subst (λ (shown : Shown). KeepsCount shown c.take_step.new.self) c.look_ahead.ensures
    c.take_step.ensures.counted

pub returns-clause-concluded : goal.returns-clause-concluded
returns-clause-concluded g c = λ has.
    c.take_step.ensures.concluded (subst (λ (shown : Shown). HasOutcome (state_of shown.story) c.args.lane c.args.unit)
    (sym c.look_ahead.ensures) has) ∙ c.look_ahead.ensures

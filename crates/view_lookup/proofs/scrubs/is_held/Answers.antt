-- The maker's view and the winks tell whether some view holds an object.
use Rattle.std.proofs.Common.{◌||◌, sym, ap, ◌∙◌}
use Rattle.std.specs.Prelude.{is_some}
use Rattle.base_rows.specs.Effects.{winked_effect}
use Rattle.base_rows.specs.LookUps.{last_of}
use Rattle.view_lookup.proofs.HeldSomewhere.{held_somewhere}
use Rattle.view_lookup.proofs.scrubs.is_held.Goals as goal

pub returns-then-is_held_by_maker : goal.returns-then-is_held_by_maker
returns-then-is_held_by_maker c =
    let b = c.args.rows.now in
    let id = c.args.object in
    c.if-is_held_by_maker.true
    ∙ sym (ap (λ made. made || is_some (last_of (winked_effect b id) b)) (sym c.is_held_by_maker.ensures
    ∙ c.if-is_held_by_maker.true))
    ∙ held_somewhere b id

pub returns-else-is_held_by_maker : goal.returns-else-is_held_by_maker
returns-else-is_held_by_maker c =
    let b = c.args.rows.now in
    let id = c.args.object in
    c.is_some.ensures
    ∙ ap is_some c.last.ensures
    ∙ sym (ap (λ made. made || is_some (last_of (winked_effect b id) b)) (sym c.is_held_by_maker.ensures
    ∙ c.if-is_held_by_maker.false))
    ∙ held_somewhere b id

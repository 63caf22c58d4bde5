use Rattle.std.proofs.Common.{rules, ap, sym, Some, ◌∙◌, ◌∷◌}
use Rattle.atomic_table.specs.Table.{rest}
use Rattle.turn_lock.proofs.Keeps.{draws}
use Rattle.turn_lock.proofs.lock.TurnLock.take.Goals as goal

pub fetch_add-ticket-requires : goal.fetch_add-ticket-requires
fetch_add-ticket-requires g c = (
  search rules,
  search rules,
  draws g.T.Storied.story _ _ _ _ c.pass.invariant.0
      c.pass.invariant.2,
)

-- the value is the only thing in hand
pub exchange-requires : goal.exchange-requires
exchange-requires g c = let taken = c.wait_for.ensures.taken in let hand = ap (λ m. m.1) taken.2 in
    (search rules, (Some taken.1, hand ∙ ap (λ hands. (0, Some taken.1) ∷ rest hands) (sym hand)))

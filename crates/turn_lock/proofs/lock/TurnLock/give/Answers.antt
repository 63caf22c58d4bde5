use Rattle.std.proofs.Common.{rules, sym, ap, subst}
use mathlib.Core.List.{IsPrefix}
use Rattle.turn_lock.specs.Stages.{noted_of}
use Rattle.turn_lock.proofs.Keeps.{gives_back}
use Rattle.turn_lock.proofs.lock.TurnLock.give.Goals as goal

pub fetch_add-served-requires : goal.fetch_add-served-requires
fetch_add-served-requires g c = (
  search rules,
  search rules,
  gives_back g.T.Storied.story _ _ _ _ c.args.value
      (noted_of c.held.inside.seat.me.0.stage) (search rules) (search rules) (search rules)
      (subst (λ l. IsPrefix l (g.T.Storied.story c.args.value)) (sym (ap (λ h. h.story) c.held.view_is)) c.requires.story),
)

use Rattle.std.proofs.Common.{rules}
use Rattle.turn_lock.specs.Stages.{shorter}
use Rattle.turn_lock.proofs.Keeps.{unites, settles}
use Rattle.turn_lock.proofs.lock.TurnLock.join.Goals as goal

pub join_seat-requires : goal.join_seat-requires
join_seat-requires g c = (
  search rules,
  search rules,
  search rules,
  search rules,
  unites g.T.Storied.story _ _ _ _ _ c.one.invariant.0 c.two.invariant.0 c.one.invariant.2,
)

pub load-requires : goal.load-requires
load-requires g c = (
  search rules,
  search rules,
  settles g.T.Storied.story _ _ _ _
      (shorter c.one.inside.seat.me.0.seen c.two.inside.seat.me.0.seen) (search rules) (search rules),
)

use Rattle.std.proofs.Common.{rules}
use Rattle.turn_lock.proofs.Keeps.{looks}
use Rattle.turn_lock.proofs.lock.has_turn.Goals as goal

pub load-served-requires : goal.load-served-requires
load-served-requires g c = (
  search rules,
  search rules,
  looks g.T.Storied.story _ _ _ c.requires.waits.0 _ c.requires.waits.1
      c.requires.empty,
)

use Rattle.std.proofs.Common.{rules}
use Rattle.turn_lock.proofs.Keeps.{opens}
use Rattle.turn_lock.proofs.lock.TurnLock.new.Goals as goal

pub new-requires-2 : goal.new-requires-2
new-requires-2 g c = rw (
  c.push_reserved.ensures.items,
  c.in-Ok.ensures.items,
  c.of.ensures,
) (opens g.T.Storied.story c.args.weight c.args.value c.requires (search rules))

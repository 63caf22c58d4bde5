use Rattle.vob_history.proofs.WalksBack.{GoesBack, steps_left}
use Rattle.vob_history.proofs.reached.reaches.Given as goal

abbrev pub invariant-loop-version : goal.invariant-loop-version
invariant-loop-version l = GoesBack l.rows l.source l.target l.walk

abbrev pub decreases-loop-version : goal.decreases-loop-version
decreases-loop-version l = steps_left l.rows l.target l.walk

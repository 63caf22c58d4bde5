use Rattle.std.proofs.Common.{◌≡◌, ◌++◌, length}
use Rattle.session_text.proofs.sessions.PhasesLeft.into_vec.Given as goal

abbrev pub invariant-phases : goal.invariant-phases
invariant-phases l = l.fn.self ≡ l.phases.items ++ l.self

abbrev pub decreases-phases : goal.decreases-phases
decreases-phases l = length l.self

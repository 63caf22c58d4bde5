use Rattle.std.proofs.Common.{◌≡◌, ◌<◌, ◌+◌, ℕ, false, true}
use Rattle.std.specs.Prelude.{slice_index_or}
use Rattle.legal_history.specs.Stories.Steps.{state_of}
use Rattle.clearmake.specs.Nexts.{builds_next}
use Rattle.clearmake.proofs.before_threads.any_builds.Given as goal

-- none of the lanes so far builds next, unless it is set aside
abbrev pub invariant-loop-index : goal.invariant-loop-index
invariant-loop-index g l = (index : ℕ) → index < l.index → slice_index_or l.fn.aside index true ≡ false
    → builds_next (state_of (g.T.Storied.story l.fn.service)) (index + 1) ≡ false

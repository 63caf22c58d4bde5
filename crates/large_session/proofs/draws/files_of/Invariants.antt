use Rattle.std.proofs.Common.{◌≡◌, ◌++◌, ◌+◌, ◌-◌}
use Rattle.large_session.specs.Draws.{files_of, files_from}
use Rattle.large_session.proofs.draws.files_of.Given as goal

abbrev pub invariant-loop-index : goal.invariant-loop-index
invariant-loop-index l = l.files.items ++ files_from l.size (l.index + 1) l.state (l.size - l.index) ≡ files_of l.fn.seed l.size

use Rattle.std.proofs.Common.{◌≡◌, ◌+◌, drop}
use Rattle.legal_history.specs.Stories.Steps.{state_of}
use Rattle.base_core.specs.Story.Replying.{replies_of}
use Rattle.session_run.specs.Story.Rendered.{lanes_fail}
use Rattle.session_run.proofs.failures.any_failed.Given as goal

abbrev pub invariant-loop-index : goal.invariant-loop-index
invariant-loop-index g l =
    lanes_fail 1 (state_of l.core.story).phase.lanes (replies_of l.core.story)
    ≡ lanes_fail (l.index + 1) (drop l.index (state_of l.core.story).phase.lanes) (replies_of l.core.story)

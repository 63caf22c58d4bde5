use Rattle.std.proofs.Common.{◌≡◌, ◌++◌, length}
use Rattle.std.specs.Prelude.{map}
use Rattle.session_text.specs.CommandWords.{lane_words}
use Rattle.session_text.proofs.phases.PhaseText.words.Given as goal

abbrev pub invariant-lanes : goal.invariant-lanes
invariant-lanes l = map lane_words l.self.lanes ≡ l.lanes.items ++ map lane_words l.left

abbrev pub decreases-lanes : goal.decreases-lanes
decreases-lanes l = length l.left

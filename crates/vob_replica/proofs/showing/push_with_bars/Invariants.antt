use Rattle.std.proofs.Common.{◌≡◌, ◌++◌, length}
use Rattle.std.specs.Prelude.{flat_map}
use Rattle.vob_replica.specs.Showing.{bar_before, with_bars}
use Rattle.vob_replica.proofs.showing.push_with_bars.Given as goal

abbrev pub invariant-loop-line : goal.invariant-loop-line
invariant-loop-line l = l.initial.text.items ++ with_bars l.shown ≡ l.text.items ++ flat_map bar_before l.lines

abbrev pub decreases-loop-line : goal.decreases-loop-line
decreases-loop-line l = length l.lines

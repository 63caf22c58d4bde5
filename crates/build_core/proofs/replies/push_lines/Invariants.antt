use Rattle.std.proofs.Common.{◌≡◌, ◌++◌, length}
use Rattle.legal_history.specs.Builds.Active.{came_to}
use Rattle.legal_history.specs.Builds.Replied.{unit_lines_of, word_of_came}
use Rattle.build_core.proofs.replies.push_lines.Given as goal

abbrev pub invariant-loop-path : goal.invariant-loop-path
invariant-loop-path l =
    l.initial.lines.items ++ unit_lines_of (λ path. word_of_came l.rows l.build path (came_to l.build l.unit)) l.targets
    ≡ l.lines.items ++ unit_lines_of (λ path. word_of_came l.rows l.build path (came_to l.build l.unit)) l.rest

abbrev pub decreases-loop-path : goal.decreases-loop-path
decreases-loop-path l = length l.rest

use Rattle.std.proofs.Common.{◌≡◌, ◌++◌}
use Rattle.legal_history.specs.Queries.ElementTexts.{lsvtree_text}
use Rattle.vob_history.specs.VersionTrees.{left_lines, steps_left}
use Rattle.vob_history.proofs.version_trees.tree_text.Given as goal

-- what is written, and then what is left to tell
abbrev pub invariant-loop-text : goal.invariant-loop-text
invariant-loop-text l = l.text.items ++ left_lines l.rows l.path l.element l.left.items ≡ lsvtree_text l.rows l.path l.element

abbrev pub decreases-loop-text : goal.decreases-loop-text
decreases-loop-text l = steps_left l.rows l.left.items

use Rattle.std.proofs.Common.{◌≡◌, ◌++◌, length}
use Rattle.std.specs.List.{flat_map}
use Rattle.reply_text.specs.Words.{marked_text, shown_line}
use Rattle.reply_text.proofs.pieces.push_shown.Given as goal

abbrev pub invariant-loop-line : goal.invariant-loop-line
invariant-loop-line l = l.initial.text.items ++ marked_text l.shown_text ≡ l.text.items ++ flat_map shown_line l.lines

abbrev pub decreases-loop-line : goal.decreases-loop-line
decreases-loop-line l = length l.lines

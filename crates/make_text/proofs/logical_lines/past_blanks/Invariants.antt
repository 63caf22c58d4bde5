use Rattle.std.proofs.Common.{◌≡◌, length}
use Rattle.make_grammar.specs.LogicalLines.{past_blanks}
use Rattle.make_text.proofs.logical_lines.past_blanks.Given as goal

abbrev pub invariant-loop-byte : goal.invariant-loop-byte
invariant-loop-byte l = past_blanks l.rest ≡ past_blanks l.bytes

abbrev pub decreases-loop-byte : goal.decreases-loop-byte
decreases-loop-byte l = length l.rest

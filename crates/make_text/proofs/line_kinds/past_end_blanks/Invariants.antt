use Rattle.std.proofs.Common.{◌≡◌, length}
use Rattle.make_text.specs.SeenKinds.{past_end_blanks}
use Rattle.make_text.proofs.line_kinds.past_end_blanks.Given as goal

abbrev pub invariant-loop-byte : goal.invariant-loop-byte
invariant-loop-byte l = past_end_blanks l.rest ≡ past_end_blanks l.bytes

abbrev pub decreases-loop-byte : goal.decreases-loop-byte
decreases-loop-byte l = length l.rest

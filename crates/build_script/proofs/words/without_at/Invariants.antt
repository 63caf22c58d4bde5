use Rattle.std.proofs.Common.{◌≡◌, length}
use Rattle.script_grammar.specs.Words.{without_at}
use Rattle.build_script.proofs.words.without_at.Given as goal

abbrev pub invariant-loop-byte : goal.invariant-loop-byte
invariant-loop-byte l = without_at l.rest ≡ without_at l.line

abbrev pub decreases-loop-byte : goal.decreases-loop-byte
decreases-loop-byte l = length l.rest

use Rattle.std.proofs.Common.{◌≡◌, ◌+◌, drop}
use Rattle.make_text.specs.SuffixRules.{before_period}
use Rattle.make_text.proofs.suffixes.before_period.Given as goal

abbrev pub invariant-loop-place : goal.invariant-loop-place
invariant-loop-place l = l.place + before_period (drop l.place l.bytes) ≡ before_period l.bytes

use Rattle.std.proofs.Common.{◌≡◌, length}
use Rattle.session_text.specs.Clearmake.{asked_by, nothing_asked}
use Rattle.session_text.proofs.builds.asked_by.Given as goal

abbrev pub invariant-loop-word : goal.invariant-loop-word
invariant-loop-word l = asked_by l.initial.words nothing_asked ≡ asked_by l.words l.asked

abbrev pub decreases-loop-word : goal.decreases-loop-word
decreases-loop-word l = length l.words

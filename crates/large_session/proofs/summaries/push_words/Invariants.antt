use Rattle.std.proofs.Common.{◌≡◌, ◌++◌, length}
use Rattle.std.specs.List.{flat_map}
use Rattle.large_session.specs.Summaries.{spaced}
use Rattle.large_session.proofs.summaries.push_words.Given as goal

abbrev pub invariant-loop-word : goal.invariant-loop-word
invariant-loop-word l = l.initial.text.items ++ flat_map spaced l.initial.words ≡ l.text.items ++ flat_map spaced l.words

abbrev pub decreases-loop-word : goal.decreases-loop-word
decreases-loop-word l = length l.words

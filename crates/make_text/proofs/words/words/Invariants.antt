use Rattle.std.proofs.Common.{◌≡◌, ◌++◌, map, length}
use Rattle.cc_names.specs.Cuts.{words_of}
use Rattle.make_text.proofs.words.words.Given as goal

abbrev pub invariant-loop-word : goal.invariant-loop-word
invariant-loop-word l = map (λ word. word.now) l.found.items ++ l.left ≡ words_of l.bytes

abbrev pub decreases-loop-word : goal.decreases-loop-word
decreases-loop-word l = length l.left

use Rattle.std.proofs.Common.{◌≡◌, ◌++◌, drop, map}
use Rattle.std.specs.List.{concat}
use Rattle.vob_history.specs.VersionTrees.{behind_comma}
use Rattle.vob_history.proofs.bracketed.push_more.Given as goal

-- what is written, and then the words that are left
abbrev pub invariant-loop-word : goal.invariant-loop-word
invariant-loop-word l =
    l.text.items ++ concat (map (λ word. behind_comma word.now) (drop l.word-index l.words)) ≡ l.initial.text.items
    ++ concat (map (λ word. behind_comma word.now) l.words)

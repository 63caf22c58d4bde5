use Rattle.std.proofs.Common.{◌≡◌, map, drop}
use Rattle.make_grammar.specs.WordPaths.{paths_below_root}
use Rattle.make_text.proofs.RuleLemmas.{paths_onto}
use Rattle.make_text.proofs.word_paths.read_paths_below_root.Given as goal

abbrev pub invariant-loop-word : goal.invariant-loop-word
invariant-loop-word l = paths_onto l.paths.items (paths_below_root (map (λ word. word.now) (drop l.word-index l.words)))
    ≡ paths_below_root (map (λ word. word.now) l.words)

use Rattle.std.proofs.Common.{◌≡◌, map, drop}
use Rattle.script_grammar.specs.Lines.{paths_of}
use Rattle.build_script.proofs.LineLemmas.{paths_onto}
use Rattle.build_script.proofs.lines.read_paths.Given as goal

abbrev pub invariant-loop-word : goal.invariant-loop-word
invariant-loop-word l = paths_onto l.paths.items (paths_of (map (λ word. word.now) (drop l.word-index l.words)))
    ≡ paths_of (map (λ word. word.now) l.words)

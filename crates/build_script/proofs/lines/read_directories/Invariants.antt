use Rattle.std.proofs.Common.{◌≡◌, map}
use Rattle.script_grammar.specs.Lines.{directories_of}
use Rattle.build_script.proofs.LineLemmas.{paths_onto}
use Rattle.build_script.proofs.lines.read_directories.Given as goal

abbrev pub invariant-loop-pair : goal.invariant-loop-pair
invariant-loop-pair l = record {
  two : l.pair-iterator.size ≡ 2;
  paths : paths_onto l.paths.items (directories_of (map (λ word. word.now) l.pair-iterator.rest.now))
      ≡ directories_of (map (λ word. word.now) l.words);
}

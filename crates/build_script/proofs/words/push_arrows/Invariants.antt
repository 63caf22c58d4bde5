use Rattle.std.proofs.Common.{◌≡◌, ◌++◌, map}
use Rattle.script_grammar.specs.Words.{arrows}
use Rattle.build_script.proofs.words.push_arrows.Given as goal

abbrev pub invariant-loop-pair : goal.invariant-loop-pair
invariant-loop-pair l = record {
  two : l.pair-iterator.size ≡ 2;
  arrows : map (λ word. word.now) l.found.items ++ arrows l.pair-iterator.rest.now ≡ map (λ word. word.now) l.initial.found.items
      ++ arrows l.run;
}

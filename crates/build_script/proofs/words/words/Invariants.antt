use Rattle.std.proofs.Common.{◌≡◌, ◌++◌, map}
use Rattle.script_grammar.specs.Words.{words}
use Rattle.build_script.proofs.words.words.Given as goal

abbrev pub invariant-loop-run : goal.invariant-loop-run
invariant-loop-run l = map (λ word. word.now) l.found.items ++ words l.run-iterator.rest.now ≡ words l.line

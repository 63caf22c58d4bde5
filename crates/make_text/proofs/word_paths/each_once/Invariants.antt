use Rattle.std.proofs.Common.{◌≡◌}
use Rattle.make_grammar.specs.WordPaths.{each_once}
use Rattle.make_text.proofs.word_paths.each_once.Given as goal

abbrev pub invariant-loop-path : goal.invariant-loop-path
invariant-loop-path l = l.once.keys ≡ each_once l.yielded

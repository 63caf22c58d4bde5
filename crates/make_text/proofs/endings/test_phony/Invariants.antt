use Rattle.std.proofs.Common.{◌≡◌, drop}
use Rattle.make_grammar.specs.Grammar.{phony_fault}
use Rattle.make_text.proofs.endings.test_phony.Given as goal

abbrev pub invariant-loop-line : goal.invariant-loop-line
invariant-loop-line l = phony_fault l.phony.keys (drop l.line-index l.lines) ≡ phony_fault l.phony.keys l.lines

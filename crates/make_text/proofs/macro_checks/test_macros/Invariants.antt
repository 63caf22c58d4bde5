use Rattle.std.proofs.Common.{◌≡◌, drop}
use Rattle.make_grammar.specs.Grammar.{macros_fault}
use Rattle.make_grammar.specs.Statements.{macros_of}
use Rattle.make_text.specs.Steps.{automatic_of, IsAtEnd}
use Rattle.make_text.proofs.macro_checks.test_macros.Given as goal

abbrev pub invariant-loop-index : goal.invariant-loop-index
invariant-loop-index l =
    record {
      tested : macros_fault (macros_of l.macros) (drop l.index l.macros) ≡ macros_fault (macros_of l.macros) l.macros;
      ended : IsAtEnd (macros_of l.macros) (automatic_of l.automatic) l.expanding;
    }

use Rattle.std.proofs.Common.{[]}
use Rattle.make_grammar.specs.Statements.{macros_of}
use Rattle.make_grammar.specs.Macros.{expansion_of}
use Rattle.make_text.specs.Steps.{automatic_of, IsExpanding, work_of}
use Rattle.make_text.specs.Runs.{HasNamesApart}
use Rattle.make_text.proofs.expansions.expand.Given as goal

abbrev pub invariant-steps : goal.invariant-steps
invariant-steps l =
    HasNamesApart (macros_of l.macros)
    × IsExpanding (macros_of l.macros) (automatic_of l.automatic) (expansion_of (macros_of l.macros) (automatic_of l.automatic)
    l.text) [] l.expanding

abbrev pub decreases-steps : goal.decreases-steps
decreases-steps l = work_of (macros_of l.macros) l.expanding

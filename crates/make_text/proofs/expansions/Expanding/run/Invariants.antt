use Rattle.std.proofs.Common.{[]}
use Rattle.make_grammar.specs.Macros.{Expansion}
use Rattle.make_text.specs.Runs.{HasNamesApart}
use Rattle.make_grammar.specs.Statements.{macros_of}
use Rattle.make_text.specs.Steps.{automatic_of, IsExpanding, IsSomeRun, work_of}
use Rattle.make_text.proofs.expansions.Expanding.run.Given as goal

abbrev pub invariant-steps : goal.invariant-steps
invariant-steps l =
    record {
      apart : HasNamesApart (macros_of l.macros);
      runs : IsSomeRun (macros_of l.macros) (automatic_of l.automatic) l.self;
      goes : (total : Expansion) → IsExpanding (macros_of l.macros) (automatic_of l.automatic) total [] l.initial.self
          → IsExpanding (macros_of l.macros) (automatic_of l.automatic) total [] l.self;
    }

abbrev pub decreases-steps : goal.decreases-steps
decreases-steps l = work_of (macros_of l.macros) l.self

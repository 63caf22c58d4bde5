use Rattle.std.proofs.Common.{◌≡◌, [], length}
use Rattle.make_grammar.specs.Statements.{expanded_by, macros_of}
use Rattle.make_grammar.specs.Macros.{one_after_other, no_automatic, plain}
use Rattle.make_text.specs.Steps.{IsExpanding, work_of}
use Rattle.make_text.specs.Runs.{HasNamesApart}
use Rattle.make_text.proofs.expanded_macros.run_behind.Given as goal

abbrev pub invariant-steps : goal.invariant-steps
invariant-steps l =
    record {
      apart : HasNamesApart (macros_of l.macros);
      start : l.start ≡ length l.fn.results.written.items;
      runs : IsExpanding (macros_of l.macros) no_automatic (one_after_other (plain l.fn.results.written.items)
          (expanded_by (macros_of l.macros) l.text)) [] l.expanding;
    }

abbrev pub decreases-steps : goal.decreases-steps
decreases-steps l = work_of (macros_of l.macros) l.expanding

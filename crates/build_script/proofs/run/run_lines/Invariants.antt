use Rattle.std.proofs.Common.{Ok, drop}
use Rattle.script_grammar.specs.Parts.{Performed}
use Rattle.build_script.specs.Progress.{run_state}
use Rattle.script_grammar.specs.Run.{after_lines}
use Rattle.build_script.proofs.run.run_lines.Given as goal

abbrev pub invariant-loop-line : goal.invariant-loop-line
invariant-loop-line g l =
    Performed g.F.Files.stands g.F.Files.broken g.F.Files.follows l.initial.progress.reads.keys
    (after_lines l.targets.keys l.lines (run_state l.initial.progress))
    (λ (u : Unit {0}). after_lines l.targets.keys (drop l.line-index l.lines) (run_state l.progress)) (Ok tt)
    l.progress.reads.keys l.initial.files l.files

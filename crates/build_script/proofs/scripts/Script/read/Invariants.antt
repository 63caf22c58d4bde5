use Rattle.std.proofs.Common.{◌≡◌, ◌+◌, ◌≤◌, length}
use Rattle.std.specs.Prelude.{option_copied}
use Rattle.script_grammar.specs.Lines.{lines_from, pieces, size_of, script_of}
use Rattle.build_script.proofs.LineLemmas.{lines_onto}
use Rattle.build_script.proofs.scripts.Script.read.Given as goal

abbrev pub invariant-loop-rest : goal.invariant-loop-rest
invariant-loop-rest l = record {
  lines : lines_onto l.lines.items (lines_from (l.number + 1) (pieces (option_copied l.rest))) ≡ script_of l.fn.text;
  number : l.number + size_of (option_copied l.rest) ≤ length l.fn.text + 1;
}

abbrev pub decreases-loop-rest : goal.decreases-loop-rest
decreases-loop-rest l = size_of (option_copied l.rest)

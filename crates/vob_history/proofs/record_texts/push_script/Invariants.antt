use Rattle.std.proofs.Common.{◌≡◌, ◌++◌, length, map}
use Rattle.std.specs.List.{concat}
use Rattle.cc_names.specs.Cuts.{lines_of}
use Rattle.vob_history.specs.Recorded.{recorded_script_line}
use Rattle.vob_history.proofs.record_texts.push_script.Given as goal

-- what is written, and then the lines of the lines that are left
abbrev pub invariant-loop-line : goal.invariant-loop-line
invariant-loop-line l = l.text.items ++ concat (map recorded_script_line l.lines) ≡ l.initial.text.items
    ++ concat (map recorded_script_line (lines_of l.script))

abbrev pub decreases-loop-line : goal.decreases-loop-line
decreases-loop-line l = length l.lines

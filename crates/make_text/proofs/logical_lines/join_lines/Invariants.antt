use Rattle.std.proofs.Common.{◌≡◌, ℕ, length, true}
use Rattle.std.specs.List.{slice_split}
use Rattle.cc_names.specs.Cuts.{is_newline}
use Rattle.make_grammar.specs.LogicalLines.{lines_from}
use Rattle.make_text.specs.JoinedLines.{joined_onto}
use Rattle.make_text.proofs.logical_lines.join_lines.Given as goal

abbrev pub invariant-lines : goal.invariant-lines
invariant-lines l =
    (n : ℕ) →
    joined_onto n l.bytes.items (lines_from true l.number (slice_split is_newline l.rest)) ≡
    joined_onto n l.fn.bytes.items (lines_from true l.first (slice_split is_newline l.text))

abbrev pub decreases-lines : goal.decreases-lines
decreases-lines l = length l.rest

use Rattle.std.proofs.Common.{◌≡◌, ◌+◌, ◌++◌, length}
use Rattle.cc_names.specs.Cuts.{lines_of}
use Rattle.large_session.specs.Summaries.{count_of, digested_text, is_refused_line, is_reply_line, is_unit_line, lengths_of}
use Rattle.large_session.proofs.summaries.count_lines.Given as goal

-- what was found of the lines so far, and what is found of the others, is what is found of all
abbrev pub invariant-loop-bytes : goal.invariant-loop-bytes
invariant-loop-bytes l = record {
  commands : l.tally.commands + count_of is_reply_line l.lines ≡ count_of is_reply_line (lines_of l.transcripts);
  refused : l.tally.refused + count_of is_refused_line l.lines ≡ count_of is_refused_line (lines_of l.transcripts);
  units : l.tally.units + count_of is_unit_line l.lines ≡ count_of is_unit_line (lines_of l.transcripts);
  bytes : l.tally.bytes + lengths_of l.lines ≡ lengths_of (lines_of l.transcripts);
  digested : l.tally.digested.items ++ digested_text l.lines ≡ digested_text (lines_of l.transcripts);
}

abbrev pub decreases-loop-bytes : goal.decreases-loop-bytes
decreases-loop-bytes l = length l.lines

-- what was counted so far stays within what all lines give
use Rattle.std.proofs.Common.{◌≡◌, ℕ, ◌+◌, ◌^◌, ◌<◌, Bool, List, length, arith}
use Rattle.cc_names.specs.Cuts.{lines_of}
use Rattle.large_session.specs.Summaries.{count_of, is_refused_line, is_reply_line, is_unit_line, lengths_of}
use Rattle.large_session.proofs.Totals.{counts_lines, few_lines, lengths_are_small}
use Rattle.large_session.proofs.summaries.count_lines.Goals as goal

-- a count of some lines of a text, with that of the others
count_fits : (is : List ℕ → Bool) (text : List ℕ) (so_far : ℕ) (others : List (List ℕ))
    → length text < 2 ^ 63 → so_far + count_of is others ≡ count_of is (lines_of text) → so_far + 1 < 2 ^ 64
count_fits is text so_far others short h = omega (arith, counts_lines is (lines_of text), few_lines text)

lengths_fit : (text : List ℕ) (so_far : ℕ) (others : List (List ℕ))
    → length text < 2 ^ 63 → so_far + lengths_of others ≡ lengths_of (lines_of text) → so_far + 2 ^ 64 < 2 ^ 128
lengths_fit text so_far others short h = omega (arith, lengths_are_small (lines_of text), few_lines text)

pub add-requires-clause-commands : goal.add-requires-clause-commands
add-requires-clause-commands c =
    count_fits is_reply_line c.args.transcripts.now _ c.loop-bytes.lines (omega arith) c.loop-bytes.invariant.commands

pub add-requires-clause-refused : goal.add-requires-clause-refused
add-requires-clause-refused c =
    count_fits is_refused_line c.args.transcripts.now _ c.loop-bytes.lines (omega arith) c.loop-bytes.invariant.refused

pub add-requires-clause-units : goal.add-requires-clause-units
add-requires-clause-units c =
    count_fits is_unit_line c.args.transcripts.now _ c.loop-bytes.lines (omega arith) c.loop-bytes.invariant.units

pub add-requires-clause-bytes : goal.add-requires-clause-bytes
add-requires-clause-bytes c =
    lengths_fit c.args.transcripts.now _ c.loop-bytes.lines (omega arith) c.loop-bytes.invariant.bytes

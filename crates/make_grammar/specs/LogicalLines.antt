-- The lines of a makefile as make reads them: a backslash before a newline joins a line to the next.
use Rattle.std.specs.Prelude.{ℕ, ◌+◌, ◌-◌, Bool, true, false, min, List, [], ◌∷◌, ◌++◌, length, take, if◌then◌else◌}
use Rattle.std.specs.List.{slice_split}
use Rattle.cc_names.specs.Cuts.{is_blank, is_newline}
use Rattle.make_grammar.specs.Lines.{is_joined}
use Rattle.make_grammar.specs.declared.logical_lines.LogicalLine.{LogicalLine}

-- the number of the next line; it stands still at the end of its 32 bits
abbrev pub next_number : ℕ → ℕ
next_number n = min (n + 1) 4294967295

-- bytes without the blanks at their start
abbrev pub past_blanks : List ℕ → List ℕ
past_blanks [] = []
past_blanks (b ∷ bs) = if is_blank b then past_blanks bs else b ∷ bs

-- what a line of the text gives to its logical line: all of it, or where it is joined to what stands above, what stands
-- past its first blanks
abbrev pub part_of : Bool → List ℕ → List ℕ
part_of joined line = if joined then past_blanks line else line

-- without the last byte
abbrev pub without_last_byte : List ℕ → List ℕ
without_last_byte bytes = take (length bytes - 1) bytes

-- a part and a space before the line that follows, which may be missing
abbrev pub before_line : ℕ → List ℕ → List LogicalLine → List LogicalLine
before_line n part [] = record { number = n; bytes = part ++ (32 ∷ []) } ∷ []
before_line n part (line ∷ lines) = record { number = n; bytes = part ++ (32 ∷ line.bytes) } ∷ lines

-- the last line of a text, which is none where it is empty
abbrev pub last_line : ℕ → List ℕ → List LogicalLine
last_line n [] = []
last_line n (b ∷ bs) = record { number = n; bytes = b ∷ bs } ∷ []

-- a part that a newline ends, with the logical lines that follow where it is joined to them and where it is not
abbrev pub ended_line : ℕ → List ℕ → List LogicalLine → List LogicalLine → List LogicalLine
ended_line n part joined apart =
    if is_joined part then before_line n (without_last_byte part) joined
    else record { number = n; bytes = part } ∷ apart

-- the logical lines in what newlines part, numbered from here on; the first may be joined to what stands above
abbrev pub lines_from : Bool → ℕ → List (List ℕ) → List LogicalLine
lines_from joined n [] = []
lines_from joined n (part ∷ []) = last_line n (part_of joined part)
lines_from joined n (part ∷ next ∷ parts) =
    ended_line n (part_of joined part)
    (lines_from true (next_number n) (next ∷ parts)) (lines_from false (next_number n) (next ∷ parts))

-- The logical lines of a text: the backslash, its newline and the blanks that follow become one space, and a logical line
-- has the number of its first line.
abbrev pub logical_lines : List ℕ → List LogicalLine
logical_lines text = lines_from false 1 (slice_split is_newline text)

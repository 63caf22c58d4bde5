-- How the lines of a text are cut and joined one by one.
use Rattle.std.specs.Prelude.{◌≡◌, ℕ, ◌<◌, true, false, Option, Some, None, List, [], ◌∷◌, ◌++◌, length}
use Rattle.std.specs.List.{slice_split}
use Rattle.std.specs.Borrow.{Bor}
use Rattle.cc_names.specs.Cuts.{is_newline}
use Rattle.make_grammar.specs.Lines.{is_joined}
use Rattle.make_grammar.specs.LogicalLines.{without_last_byte}
use Rattle.make_grammar.specs.declared.logical_lines.LogicalLine.{LogicalLine}

-- a text is cut into its first line and what follows the newline, if there is one
abbrev pub CutsLine : List ℕ → List ℕ → Option (Bor (List ℕ)) → Type 0
CutsLine text line None = (slice_split is_newline text ≡ line ∷ []) × (line ≡ text)
CutsLine text line (Some rest) =
    (slice_split is_newline text ≡ line ∷ slice_split is_newline rest.now) × (length rest.now < length text)

-- a line is cut before the backslash at its end, if there is one
abbrev pub CutsBackslash : List ℕ → Option (Bor (List ℕ)) → Type 0
CutsBackslash line None = is_joined line ≡ false
CutsBackslash line (Some prefix) = (is_joined line ≡ true) × (prefix.now ≡ without_last_byte line)

-- bytes before the first of some lines
abbrev pub joined_onto : ℕ → List ℕ → List LogicalLine → List LogicalLine
joined_onto n bytes [] = record { number = n; bytes = bytes } ∷ []
joined_onto n bytes (line ∷ lines) = record { number = n; bytes = bytes ++ line.bytes } ∷ lines

-- bytes that the first of some lines is joined to are then those of a whole line, before the lines that are left
abbrev pub JoinsLine : List ℕ → List LogicalLine → List ℕ → List LogicalLine → Type 0
JoinsLine before joined bytes left = (n : ℕ) → joined_onto n before joined ≡ record { number = n; bytes = bytes } ∷ left

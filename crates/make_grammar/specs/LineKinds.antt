-- What a line of a makefile is, where it is no line of a script.
use Rattle.std.specs.Prelude.{ℕ, Bool, true, false, not, ◌&&◌, ◌||◌, ◌==◌, Option, Some, None, List, [], ◌∷◌, take, drop}
use Rattle.std.specs.Prelude.{reverse, slice_get, if◌then◌else◌, codes}
use Rattle.std.specs.List.{before_first}
use Rattle.std.specs.Str.{bytes_eq}
use Rattle.cc_names.specs.Cuts.{is_blank}
use Rattle.make_grammar.specs.Lines.{is_blank_line}
use Rattle.make_grammar.specs.LogicalLines.{past_blanks}
use Rattle.make_grammar.specs.declared.line_kinds.Position.{Position}
use Rattle.make_grammar.specs.declared.line_kinds.Position.TheVariants.{Outside, Dollar, Within}

-- what a line is
pub data Kind : Type 0 where
  -- nothing, or blanks
  Blank : Kind
  -- `include` and what follows it
  Include : List ℕ → Kind
  -- what stands before the `=` and after it
  Assignment : List ℕ → List ℕ → Kind
  -- what stands before the `:` and after it
  Rule : List ℕ → List ℕ → Kind
  -- none of these, and a `$(` or `${` is never closed
  Unclosed : Kind
  -- none of these
  Neither : Kind

-- a `#` starts a comment
abbrev pub is_hash : ℕ → Bool
is_hash b = b == 35

-- a line without its comment
abbrev pub without_comment : List ℕ → List ℕ
without_comment line = before_first is_hash line

-- bytes without the blanks at both ends
abbrev pub trimmed_bytes : List ℕ → List ℕ
trimmed_bytes bytes = reverse (past_blanks (reverse (past_blanks bytes)))

-- whether there is a byte, and it is a blank
abbrev pub is_blank_byte : Option ℕ → Bool
is_blank_byte None = false
is_blank_byte (Some b) = is_blank b

-- what follows the word `include`, where bytes begin with it and a blank follows
abbrev pub behind_include : List ℕ → Option (List ℕ)
behind_include bytes =
    if bytes_eq (take 7 bytes) (codes "include") && is_blank_byte (slice_get bytes 7) then Some (drop 7 bytes) else None

-- the position after a byte
abbrev pub behind_byte : Position → ℕ → Position
behind_byte Outside b = if b == 36 then Dollar else Outside
behind_byte Dollar b = if b == 40 then Within 41 else if b == 123 then Within 125 else Outside
behind_byte (Within close) b = if b == close then Outside else Within close

-- whether a position is inside a reference
abbrev pub is_in_reference : Position → Bool
is_in_reference (Within close) = true
is_in_reference position = false

-- whether a byte decides what the line is: a `=` or `:` outside a macro reference
abbrev pub is_deciding_byte : Position → ℕ → Bool
is_deciding_byte position b = not (is_in_reference position) && ((b == 61) || (b == 58))

-- the kind that a byte decides, by what follows it
abbrev pub kind_by_byte : ℕ → List ℕ → Kind
kind_by_byte b behind = if b == 61 then Assignment [] behind else Rule [] behind

-- a byte before what stands before the `=` or `:`
abbrev pub with_byte : ℕ → Kind → Kind
with_byte b (Assignment before behind) = Assignment (b ∷ before) behind
with_byte b (Rule before behind) = Rule (b ∷ before) behind
with_byte b kind = kind

-- the kind by the first `=` or `:` outside a macro reference
abbrev pub kind_from : Position → List ℕ → Kind
kind_from position [] = if is_in_reference position then Unclosed else Neither
kind_from position (b ∷ bs) =
    if is_deciding_byte position b then kind_by_byte b bs else with_byte b (kind_from (behind_byte position b) bs)

-- the kind where the bytes may begin with `include`
abbrev pub kind_or_include : Option (List ℕ) → List ℕ → Kind
kind_or_include (Some behind) line = Include behind
kind_or_include None line = kind_from Outside line

-- The kind of a line without its comment.
abbrev pub line_kind : List ℕ → Kind
line_kind line = if is_blank_line line then Blank else kind_or_include (behind_include (past_blanks line)) line

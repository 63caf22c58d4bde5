-- What the macro references in a text are, and what a text expands to.
use Rattle.std.specs.Prelude.{ℕ, zero, suc, Bool, true, false, ◌&&◌, ◌||◌, ◌==◌, nat_le, nat_lt, Option, Some, None, List, []}
use Rattle.std.specs.Prelude.{◌∷◌, ◌++◌, length, unwrap_or, if◌then◌else◌}
use Rattle.std.specs.List.{list_any, list_all}
use Rattle.std.specs.Str.{bytes_eq}
use Rattle.cc_names.specs.declared.commands.Macro.{Macro}

-- a letter, a digit or `_`
abbrev pub is_word_byte : ℕ → Bool
is_word_byte b =
    (nat_le 97 b && nat_le b 122) || (nat_le 65 b && nat_le b 90) || (nat_le 48 b && nat_le b 57) || (b == 95)

-- a byte of a macro's name: a letter, a digit, `_` or `.`
abbrev pub is_macro_byte : ℕ → Bool
is_macro_byte b = is_word_byte b || (b == 46)

-- whether bytes are the name of a macro
abbrev pub is_macro_name : List ℕ → Bool
is_macro_name name = nat_lt 0 (length name) && list_all is_macro_byte name

-- `@`, `<` and `*` name what is set in a script
abbrev pub is_automatic : ℕ → Bool
is_automatic b = (b == 64) || (b == 60) || (b == 42)

-- a part of a text that has macro references
pub data Piece : Type 0 where
  -- a byte that stands for itself; `$$` is a `$`
  Byte : ℕ → Piece
  -- a reference to the macro of this name
  Reference : List ℕ → Piece
  -- `$@`, `$<` or `$*`
  Automatic : ℕ → Piece
  -- any other `$`
  Bad : Piece

-- what a `$` and the byte after it are, where that opens no parenthesis
abbrev pub single : ℕ → Piece
single b =
    if b == 36 then Byte b
    else if is_word_byte b then Reference (b ∷ [])
    else if is_automatic b then Automatic b
    else Bad

-- what a name between parentheses or braces is
abbrev pub piece_of_name : List ℕ → Piece
piece_of_name name = if is_macro_name name then Reference name else Bad

-- how far a reference is read: not begun, its `$`, or up to here in its name, with the byte that closes it
pub data Scan : Type 0 where
  Plain : Scan
  Dollar : Scan
  Name : ℕ → List ℕ → Scan

-- the pieces of a text that goes on after what was read
abbrev pub pieces_from : Scan → List ℕ → List Piece
pieces_from Plain [] = []
pieces_from Dollar [] = Bad ∷ []
pieces_from (Name close name) [] = Bad ∷ []
pieces_from Plain (b ∷ bs) = if b == 36 then pieces_from Dollar bs else Byte b ∷ pieces_from Plain bs
pieces_from Dollar (b ∷ bs) =
    if b == 40 then pieces_from (Name 41 []) bs
    else if b == 123 then pieces_from (Name 125 []) bs
    else single b ∷ pieces_from Plain bs
pieces_from (Name close name) (b ∷ bs) =
    if b == close then piece_of_name name ∷ pieces_from Plain bs
    else pieces_from (Name close (name ++ (b ∷ []))) bs

-- the pieces of a text: bytes, and `$(NAME)`, `${NAME}` or `$N` of one byte, or `$@`, `$<`, `$*`
abbrev pub pieces_of : List ℕ → List Piece
pieces_of text = pieces_from Plain text

-- a `$` that begins no macro reference
abbrev pub is_bad_dollar : Piece → Bool
is_bad_dollar Bad = true
is_bad_dollar piece = false

-- whether a text has a `$` that begins no macro reference
abbrev pub has_bad_dollar : List ℕ → Bool
has_bad_dollar text = list_any is_bad_dollar (pieces_of text)

-- what an expansion gives: its bytes, up to where it meets a macro that is being expanded, if it does
pub record Expansion : Type 0 where
  pub bytes : List ℕ
  pub loops : Bool

-- these bytes, and no loop
abbrev pub plain : List ℕ → Expansion
plain bytes = record { bytes = bytes; loops = false }

-- a loop at once
abbrev pub loop : Expansion
loop = record { bytes = []; loops = true }

-- one expansion and then another, which a loop keeps from beginning
abbrev pub one_after_other : Expansion → Expansion → Expansion
one_after_other first next =
    record {
      bytes = first.bytes ++ (if first.loops then [] else next.bytes);
      loops = first.loops || next.loops;
    }

-- the expansion of a piece, by that of references and the values of `$@`, `$<` and `$*`
abbrev pub piece_expansion : (List ℕ → Expansion) → (ℕ → List ℕ) → Piece → Expansion
piece_expansion refer automatic (Byte b) = plain (b ∷ [])
piece_expansion refer automatic (Reference name) = refer name
piece_expansion refer automatic (Automatic b) = plain (automatic b)
piece_expansion refer automatic Bad = plain []

-- the expansion of pieces, one after the other
abbrev pub pieces_expansion : (List ℕ → Expansion) → (ℕ → List ℕ) → List Piece → Expansion
pieces_expansion refer automatic [] = plain []
pieces_expansion refer automatic (piece ∷ pieces) =
    one_after_other (piece_expansion refer automatic piece) (pieces_expansion refer automatic pieces)

-- the value of the macro of this name, where there is one
abbrev pub value_in : List Macro → List ℕ → Option (List ℕ)
value_in [] name = None
value_in (macro ∷ macros) name = if bytes_eq name macro.name then Some macro.value else value_in macros name

-- whether a name is among these
abbrev pub is_among : List (List ℕ) → List ℕ → Bool
is_among names name = list_any (bytes_eq name) names

-- the expansion of a macro's value, if it has one; a macro that is not defined is empty
abbrev pub value_expansion : (List ℕ → Expansion) → Option (List ℕ) → Expansion
value_expansion of_value None = plain []
value_expansion of_value (Some value) = of_value value

-- The expansion of a reference, while the macros of some names are being expanded: a loop where it is one of them, else
-- the expansion of its value. The number is how many more macros can be expanded inside each other: no more than there are.
abbrev pub reference_expansion : List Macro → (ℕ → List ℕ) → ℕ → List (List ℕ) → List ℕ → Expansion
reference_expansion macros automatic zero begun name = value_expansion (λ value. loop) (value_in macros name)
reference_expansion macros automatic (suc left) begun name =
    if is_among begun name then loop
    else value_expansion
    (λ value. pieces_expansion (reference_expansion macros automatic left (name ∷ begun)) automatic (pieces_of value))
    (value_in macros name)

-- What a text expands to, by these macros and the values of `$@`, `$<` and `$*`. A macro's value is expanded where it is
-- used.
abbrev pub expansion_of : List Macro → (ℕ → List ℕ) → List ℕ → Expansion
expansion_of macros automatic text =
    pieces_expansion (reference_expansion macros automatic (length macros) []) automatic (pieces_of text)

-- in the script of a target: the target, the first prerequisite and the stem
abbrev pub in_script : List ℕ → Option (List ℕ) → List ℕ → ℕ → List ℕ
in_script target first stem b = if b == 64 then target else if b == 60 then unwrap_or first [] else stem

-- outside scripts `$@`, `$<` and `$*` are empty
abbrev pub no_automatic : ℕ → List ℕ
no_automatic b = in_script [] None [] b

-- the most bytes of an expanded line, macro or script
abbrev pub expansion_limit : ℕ
expansion_limit = 65536

-- whether an expansion is longer than a line may be
abbrev pub is_too_long : Expansion → Bool
is_too_long expansion = nat_lt expansion_limit (length expansion.bytes)

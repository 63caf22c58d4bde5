-- What commands make of a text.
use Rattle.std.specs.Prelude.{ℕ, zero, suc, ◌-◌, List, [], ◌∷◌, ◌++◌, length, take, decimal, if◌then◌else◌}
use Rattle.std.specs.List.{flat_map}
use Rattle.std.specs.Str.{bytes_eq}
use Rattle.cc_names.specs.Cuts.{is_newline}
use Rattle.sha2.specs.Sha256.{sha256}
use Rattle.hex.specs.Hex.{encode_lower}

-- a byte before lines: it is the first byte of the first of them
abbrev pub before_lines : ℕ → List (List ℕ) → List (List ℕ)
before_lines b [] = (b ∷ []) ∷ []
before_lines b (line ∷ lines) = (b ∷ line) ∷ lines

-- the lines of a text, each with its newline, which the last may lack
abbrev pub lines_in : List ℕ → List (List ℕ)
lines_in [] = []
lines_in (b ∷ bytes) = if is_newline b then (b ∷ []) ∷ lines_in bytes else before_lines b (lines_in bytes)

-- the text as it is
abbrev pub whole : List ℕ → List ℕ
whole text = text

-- the first lines of a text, so many of them
abbrev pub first_lines : ℕ → List ℕ → List ℕ
first_lines number text = flat_map (λ line. line) (take number (lines_in text))

-- the same text after so many bytes that are passed over, with each occurrence of some bytes replaced
abbrev pub replaced_behind : List ℕ → List ℕ → ℕ → List ℕ → List ℕ
replaced_behind from to skip [] = []
replaced_behind from to (suc skip) (b ∷ bytes) = replaced_behind from to skip bytes
replaced_behind from to zero (b ∷ bytes) =
    if bytes_eq (take (length from) (b ∷ bytes)) from then to ++ replaced_behind from to (length from - 1) bytes
    else b ∷ replaced_behind from to zero bytes

-- a text with each occurrence of some bytes, from the left, replaced by others; no bytes occur nowhere
abbrev pub with_replaced : List ℕ → List ℕ → List ℕ → List ℕ
with_replaced [] to text = text
with_replaced (b ∷ from) to text = replaced_behind (b ∷ from) to zero text

-- the SHA-256 of a text (FIPS 180-4) in lower-case hexadecimal digits, and a newline
abbrev pub digest_line : List ℕ → List ℕ
digest_line text = encode_lower (sha256 text) ++ 10 ∷ []

-- a text after the line that says its path and how many bytes it has
abbrev pub linked_text : List ℕ → List ℕ → List ℕ
linked_text path text = path ++ 32 ∷ decimal (length text) ++ 10 ∷ text

-- The summary of the transcripts of a session: five lines.
use Rattle.std.specs.Prelude.{ℕ, ◌+◌, Bool, false, ◌&&◌, ◌||◌, ◌==◌, Option, Some, None, List, [], ◌∷◌, ◌++◌, codes}
use Rattle.std.specs.Prelude.{if◌then◌else◌}
use Rattle.std.specs.Char.{is_ascii_digit}
use Rattle.std.specs.Fmt.{decimal}
use Rattle.std.specs.List.{flat_map}
use Rattle.std.specs.Str.{bytes_eq}
use Rattle.cc_names.specs.Cuts.{lines_of, words_of}
use Rattle.cc_names.specs.Numbers.{number_of}
use Rattle.cc_names.specs.References.{one_where}
use Rattle.hex.specs.Hex.{encode_lower}
use Rattle.sha2.specs.Sha256.{sha256}
use Rattle.large_session.specs.LargeSession.{line}

-- whether a line is that of a reply: it begins with the number of its command
abbrev pub is_reply_line : List ℕ → Bool
is_reply_line [] = false
is_reply_line (b ∷ bytes) = is_ascii_digit b

-- whether the words of such a line say that its command was refused: the third does, after the number and the command's word
abbrev pub say_refused : List (List ℕ) → Bool
say_refused (number ∷ command ∷ reply ∷ words) = bytes_eq reply (codes "refused")
say_refused words = false

abbrev pub is_refused_line : List ℕ → Bool
is_refused_line bytes = is_reply_line bytes && say_refused (words_of bytes)

-- whether a line is that of a unit: it begins with two spaces
abbrev pub is_unit_line : List ℕ → Bool
is_unit_line (a ∷ b ∷ bytes) = (a == 32) && (b == 32)
is_unit_line bytes = false

-- how many of some lines are so
abbrev pub count_of : (List ℕ → Bool) → List (List ℕ) → ℕ
count_of is [] = 0
count_of is (bytes ∷ rest) = one_where (is bytes) + count_of is rest

-- whether the word after a unit's path tells of an object
abbrev pub is_object_word : List ℕ → Bool
is_object_word word = bytes_eq word (codes "kept") || bytes_eq word (codes "winked") || bytes_eq word (codes "built")

-- a number, or 0 where there is none
abbrev pub or_zero : Option ℕ → ℕ
or_zero None = 0
or_zero (Some n) = n

-- the length of the object that the words of a unit's line tell of
abbrev pub length_said : List (List ℕ) → ℕ
length_said (path ∷ word ∷ length ∷ words) = if is_object_word word then or_zero (number_of length) else 0
length_said words = 0

-- the length of the object that a line tells of; 0 where it tells of none
abbrev pub length_told : List ℕ → ℕ
length_told bytes = if is_unit_line bytes then length_said (words_of bytes) else 0

-- the sum of these lengths
abbrev pub lengths_of : List (List ℕ) → ℕ
lengths_of [] = 0
lengths_of (bytes ∷ rest) = length_told bytes + lengths_of rest

-- a space and a word
abbrev pub spaced : List ℕ → List ℕ
spaced word = 32 ∷ word

-- the line of a unit, of these words, with `made` for `kept`, `winked` and `built`
abbrev pub said_made : List ℕ → List (List ℕ) → List ℕ
said_made bytes (path ∷ word ∷ words) =
    if is_object_word word then line (codes "  " ++ path ++ codes " made" ++ flat_map spaced words) else line bytes
said_made bytes words = line bytes

-- what the digest takes of a line: of a unit's line all, but how the unit came to its object
abbrev pub digested : List ℕ → List ℕ
digested bytes = if is_unit_line bytes then said_made bytes (words_of bytes) else []

-- the text that is digested
abbrev pub digested_text : List (List ℕ) → List ℕ
digested_text lines = flat_map digested lines

-- a line of the summary
abbrev pub total : List ℕ → ℕ → List ℕ
total word n = line (word ++ decimal n)

abbrev pub summary_of_lines : List (List ℕ) → List ℕ
summary_of_lines lines =
    total (codes "commands ") (count_of is_reply_line lines)
    ++ (total (codes "refused ") (count_of is_refused_line lines)
    ++ (total (codes "units ") (count_of is_unit_line lines)
    ++ (total (codes "bytes ") (lengths_of lines)
    ++ line (codes "digest " ++ encode_lower (sha256 (digested_text lines))))))

-- The summary of transcripts: how many commands were replied, and how many of them refused; how many lines of units there are,
-- and the sum of the lengths that they tell; and the SHA-256 of these lines in their order, where `kept`, `winked` and `built`
-- are written `made`, so that it is the same whichever view had an object built.
abbrev pub summary : List ℕ → List ℕ
summary transcripts = summary_of_lines (lines_of transcripts)

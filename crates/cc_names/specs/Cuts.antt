-- Where a text is cut into lines, and a line into words.
use Rattle.std.specs.Prelude.{ℕ, ◌+◌, Option, Some, None, take, drop, Bool, false, not, ◌||◌, ◌==◌, List, [], ◌∷◌}
use Rattle.std.specs.List.{slice_split}

-- a newline
abbrev pub is_newline : ℕ → Bool
is_newline b = b == 10

-- a space or a tab
abbrev pub is_blank : ℕ → Bool
is_blank b = (b == 32) || (b == 9)

-- parts without the last of them, where that is empty
abbrev pub without_empty_end : List (List ℕ) → List (List ℕ)
without_empty_end [] = []
without_empty_end ([] ∷ []) = []
without_empty_end (part ∷ parts) = part ∷ without_empty_end parts

-- the lines of a text: each ends with a newline, which the last may lack
abbrev pub lines_of : List ℕ → List (List ℕ)
lines_of text = without_empty_end (slice_split is_newline text)

-- parts without the empty ones
abbrev pub without_empty : List (List ℕ) → List (List ℕ)
without_empty [] = []
without_empty ([] ∷ parts) = without_empty parts
without_empty ((b ∷ bs) ∷ parts) = (b ∷ bs) ∷ without_empty parts

-- the words of a line: what spaces and tabs part
abbrev pub words_of : List ℕ → List (List ℕ)
words_of line = without_empty (slice_split is_blank line)

-- whether a line begins with a byte of a word
abbrev pub starts_with_word : List ℕ → Bool
starts_with_word [] = false
starts_with_word (b ∷ bs) = not (is_blank b)

-- what stands before a place, or all
abbrev pub before : List ℕ → Option ℕ → List ℕ
before bytes (Some place) = take place bytes
before bytes None = bytes

-- what follows a place, or nothing
abbrev pub behind : List ℕ → Option ℕ → List ℕ
behind bytes (Some place) = drop (place + 1) bytes
behind bytes None = []

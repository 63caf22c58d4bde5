-- How lines are put together from words, and the lanes that they tell of.
use Rattle.std.specs.Prelude.{ℕ, zero, suc, Option, None, List, [], ◌∷◌, ◌++◌, slice_get}
use Rattle.std.specs.List.{flat_map}
use Rattle.cc_names.specs.Cuts.{lines_of}
use Rattle.cc_names.specs.declared.commands.LaneWords.{LaneWords}
use Rattle.cc_names.specs.declared.commands.PhaseWords.{PhaseWords}

-- a word after another one, with one space between
abbrev pub spaced_word : List ℕ → List ℕ
spaced_word word = 32 ∷ word

-- words after another one
abbrev pub spaced_words : List (List ℕ) → List ℕ
spaced_words words = flat_map spaced_word words

-- a line of a text that is shown
abbrev pub shown_line : List ℕ → List ℕ
shown_line line = 124 ∷ line ++ 10 ∷ []

-- a text that is shown: each of its lines with `|` before it and a newline after it
abbrev pub marked_text : List ℕ → List ℕ
marked_text text = flat_map shown_line (lines_of text)

-- the lane of this number, counted from 1
abbrev pub lane_words_at : PhaseWords → ℕ → Option LaneWords
lane_words_at phase zero = None
lane_words_at phase (suc n) = slice_get phase.lanes n

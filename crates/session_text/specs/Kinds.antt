-- What kind of line each line of a session is.
use Rattle.std.specs.Prelude.{ℕ, ◌==◌, List, [], ◌∷◌, map, if◌then◌else◌, codes}
use Rattle.std.specs.Str.{bytes_eq}
use Rattle.cc_names.specs.Cuts.{lines_of, words_of}
use Rattle.session_text.specs.declared.kinds.Kind.{Kind}
use Rattle.session_text.specs.declared.kinds.Kind.TheVariants.{Skipped, Body, Phase, Lane, Command}

-- what words say, by the first of them; no word at all is the word of no command
abbrev pub kind_of_words : List (List ℕ) → Kind
kind_of_words [] = Command [] []
kind_of_words (word ∷ words) =
    if bytes_eq word (codes "phase") then Phase words
    else if bytes_eq word (codes "lane") then Lane words
    else Command word words

-- the kind of a line: skipped where it is empty or begins with `#`, a body line behind `|`, and else words
abbrev pub session_line_kind : List ℕ → Kind
session_line_kind [] = Skipped
session_line_kind (b ∷ bs) = if b == 35 then Skipped else if b == 124 then Body bs else kind_of_words (words_of (b ∷ bs))

-- The lines of a text, each as its kind.
abbrev pub kinds_of : List ℕ → List Kind
kinds_of text = map session_line_kind (lines_of text)

-- the bytes that are left of a text, and how many lines stood before them
pub record Rest : Type 0 where
  pub number : ℕ
  pub bytes : List ℕ

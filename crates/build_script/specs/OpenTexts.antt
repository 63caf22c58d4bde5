-- What the code's own records of the texts that `pp` is inside of stand for.
use Rattle.std.specs.Prelude.{ℕ, List, drop, map, reverse}
use Rattle.build_script.specs.declared.open_texts.OpenText.{OpenText}

-- what is left of a text
abbrev pub rest_of : OpenText → List ℕ
rest_of opened = drop opened.place opened.text

-- what is left of each, the innermost first
abbrev pub rests_of : List OpenText → List (List ℕ)
rests_of opens = reverse (map rest_of opens)

-- The words of a line.
use Rattle.std.specs.Prelude.{ℕ, Bool, ◌&&◌, ◌||◌, ◌==◌, not, List, [], ◌∷◌, if◌then◌else◌}
use Rattle.std.specs.List.{flat_map}
use Rattle.cc_names.specs.Cuts.{is_blank}

-- a `>`
abbrev pub is_arrow_byte : ℕ → Bool
is_arrow_byte b = b == 62

-- whether two bytes are of one kind: both blanks, both arrows, or both neither
abbrev pub is_alike : ℕ → ℕ → Bool
is_alike b c =
    (is_blank b && is_blank c) || (is_arrow_byte b && is_arrow_byte c)
    || (not (is_blank b || is_arrow_byte b) && not (is_blank c || is_arrow_byte c))

-- a byte before runs: it lengthens the first where it is of its kind
abbrev pub before_runs : ℕ → List (List ℕ) → List (List ℕ)
before_runs b [] = (b ∷ []) ∷ []
before_runs b ([] ∷ others) = (b ∷ []) ∷ others
before_runs b ((c ∷ run) ∷ others) =
    if is_alike b c then (b ∷ c ∷ run) ∷ others else (b ∷ []) ∷ (c ∷ run) ∷ others

-- a line cut into runs of bytes of one kind
abbrev pub runs : List ℕ → List (List ℕ)
runs [] = []
runs (b ∷ bs) = before_runs b (runs bs)

-- arrows taken two by two from the left, as `>>`, and a last one as `>`
abbrev pub arrows : List ℕ → List (List ℕ)
arrows [] = []
arrows (a ∷ []) = (a ∷ []) ∷ []
arrows (a ∷ b ∷ more) = (a ∷ b ∷ []) ∷ arrows more

-- the words of a run: none of blanks, `>>` and `>` of arrows, and any other run is one word
abbrev pub words_of_run : List ℕ → List (List ℕ)
words_of_run [] = []
words_of_run (b ∷ run) = if is_blank b then [] else if is_arrow_byte b then arrows (b ∷ run) else (b ∷ run) ∷ []

-- The words of a line: what blanks part, with `>>` and `>` as words of their own wherever they stand.
abbrev pub words : List ℕ → List (List ℕ)
words line = flat_map words_of_run (runs line)

-- a line past its first blanks, without the `@` that may stand there
abbrev pub without_at : List ℕ → List ℕ
without_at [] = []
without_at (b ∷ bs) = if is_blank b then without_at bs else if b == 64 then bs else b ∷ bs

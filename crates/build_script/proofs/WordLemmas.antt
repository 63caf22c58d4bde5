-- How a line falls into runs and words, run by run.
use Rattle.std.proofs.Common.{◌≡◌, ℕ, suc, ◌+◌, ◌-◌, ◌<◌, min, true, false, List, [], ◌∷◌, ◌++◌, length, map, refl, ap}
use Rattle.std.proofs.Common.{if◌then◌else◌, subst, arith, append_assoc, Bor}
use Rattle.std.specs.List.{flat_map, IsChunkByPrefix}
use Rattle.std.proofs.lemmas.List.{map-append}
use Rattle.script_grammar.specs.Words.{is_alike, before_runs, runs, arrows, words, words_of_run}

-- what follows a run is not of its kind
abbrev Ends : ℕ → List ℕ → Type 0
Ends b [] = Unit {0}
Ends b (c ∷ rest) = is_alike b c ≡ false

-- bytes of one kind, and then what is not of it
abbrev IsRun : List ℕ → List ℕ → Type 0
IsRun [] rest = Unit {0}
IsRun (b ∷ []) rest = Ends b rest
IsRun (b ∷ c ∷ run) rest = (is_alike b c ≡ true) × IsRun (c ∷ run) rest

record Headed (c : ℕ) (runs : List (List ℕ)) : Type 0 where
  run : List ℕ
  others : List (List ℕ)
  is : runs ≡ (c ∷ run) ∷ others

headed_before : (b : ℕ) (found : List (List ℕ)) → Headed b (before_runs b found)
headed_before b [] = record { run = []; others = []; is = refl }
headed_before b ([] ∷ others) = record { run = []; others = others; is = refl }
headed_before b ((c ∷ run) ∷ others) =
    elim (is_alike b c) as (λ v. Headed b (if v then (b ∷ c ∷ run) ∷ others else (b ∷ []) ∷ (c ∷ run) ∷ others)) [
      | true ↦ record { run = c ∷ run; others = others; is = refl }
      | false ↦
          record { run = []; others = (c ∷ run) ∷ others; is = refl }
    ]

alone : (b : ℕ) (rest : List ℕ) → Ends b rest → runs (b ∷ rest) ≡ (b ∷ []) ∷ runs rest
alone b [] ends = refl
alone b (c ∷ rest) ends =
    let h : Headed c (runs (c ∷ rest)) = headed_before c (runs rest) in
    rw h.is (rw ends refl)

runs_of : (b : ℕ) (run rest : List ℕ) → IsRun (b ∷ run) rest → runs ((b ∷ run) ++ rest) ≡ (b ∷ run) ∷ runs rest
runs_of b [] rest is = alone b rest is
runs_of b (c ∷ run) rest is = rw (runs_of c run rest is.1) (rw is.0 refl)

-- the facts that `chunk_by` gives of a run
run_from_prefix : (b : ℕ) (run rest : List ℕ) → IsChunkByPrefix is_alike ((b ∷ run) ++ rest) (suc (length run))
    → IsRun (b ∷ run) rest
run_from_prefix b [] [] h = tt
run_from_prefix b [] (c ∷ rest) h = h.1 (omega arith) 0
run_from_prefix b (c ∷ run) rest h = (
  h.0 0 0 (omega arith),
  run_from_prefix c run rest (
    (λ k d k_low. let low : suc k + 1 < suc (suc (length run)) = omega arith in
        let next : suc k + 1 ≡ suc (k + 1) = omega arith in rw next at (h.0 (suc k) d low)),
    (λ low d. let low' : suc (suc (length run)) < suc (suc (length (run ++ rest))) = omega arith in
        let last : suc (length run) - 1 ≡ length run = omega arith in
        let before : suc (suc (length run)) - 1 ≡ suc (length run) = omega arith in
        rw last (rw before at (h.1 low' d))),
  ),
)

-- the run that `chunk_by` gives is the first, and the runs of what is left follow
pub runs_cut : (line run rest : List ℕ) → line ≡ run ++ rest → 0 < length run → IsChunkByPrefix is_alike line (length run)
    → runs line ≡ run ∷ runs rest
runs_cut line [] rest e filled h = absurd (omega arith)
runs_cut line (b ∷ run) rest e filled h =
    rw e (runs_of b run rest (run_from_prefix b run rest (subst (λ l. IsChunkByPrefix is_alike l (suc (length run))) e h)))

-- a line is the words of its first run and the words after it
pub words_cut : (line run rest : List ℕ) → line ≡ run ++ rest → 0 < length run → IsChunkByPrefix is_alike line (length run)
    → words line ≡ words_of_run run ++ words rest
words_cut line run rest e filled h = ap (flat_map words_of_run) (runs_cut line run rest e filled h)

arrows_prefix : (pair rest : List ℕ) → length pair ≡ min 2 (length (pair ++ rest)) → 0 < length (pair ++ rest)
    → arrows (pair ++ rest) ≡ pair ∷ arrows rest
arrows_prefix [] [] e h = absurd (omega arith)
arrows_prefix [] (a ∷ rest) e h = absurd (omega arith)
arrows_prefix (a ∷ []) [] e h = refl
arrows_prefix (a ∷ []) (b ∷ rest) e h = absurd (omega arith)
arrows_prefix (a ∷ b ∷ []) rest e h = refl
arrows_prefix (a ∷ b ∷ c ∷ more) rest e h = absurd (omega arith)

-- arrows are a pair and the arrows after it
pub arrows_cut : (run pair rest : List ℕ) → run ≡ pair ++ rest → length pair ≡ min 2 (length run) → 0 < length run
    → arrows run ≡ pair ∷ arrows rest
arrows_cut run pair rest e two filled =
    rw e (arrows_prefix pair rest (rw e at two) (rw e at filled))

-- a word after words that were found, before more
pub pushed : (found : List (Bor (List ℕ))) (word : Bor (List ℕ)) (more : List (List ℕ)) →
    map (λ w. w.now) (found ++ word ∷ []) ++ more ≡ map (λ w. w.now) found ++ (word.now ∷ more)
pushed found word more = simp (map-append, append_assoc)

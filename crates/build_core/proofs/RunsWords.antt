-- A line has no more words than bytes, and the lines of a text no more bytes than the text.
use Rattle.std.proofs.Common.{◌≡◌, refl, ap, ◌∙◌, ℕ, suc, ◌+◌, ◌==◌, ◌≤◌, Bool, true, false, cond, List, [], ◌∷◌, length}
use Rattle.std.proofs.Common.{if◌then◌else◌, arith, length-append}
use Rattle.std.specs.List.{flat_map, slice_split, onto_first}
use Rattle.cc_names.specs.Cuts.{is_blank}
use Rattle.script_grammar.specs.Words.{is_alike, is_arrow_byte, before_runs, runs, arrows, words_of_run, words, without_at}

-- how many bytes some texts have in all
abbrev pub total : List (List ℕ) → ℕ
total [] = 0
total (text ∷ texts) = length text + total texts

-- one byte more
before_total : (b : ℕ) (found : List (List ℕ)) → total (before_runs b found) ≡ suc (total found)
before_total b [] = omega arith
before_total b ([] ∷ others) = omega arith
before_total b ((c ∷ run) ∷ others) =
    elim (is_alike b c) as (λ (t : Bool). total (if t then (b ∷ c ∷ run) ∷ others else (b ∷ []) ∷ (c ∷ run) ∷ others)
    ≡ suc (total ((c ∷ run) ∷ others)))
    [ true ↦ omega arith | false ↦ omega arith ]

runs_total : (line : List ℕ) → total (runs line) ≡ length line
runs_total [] = refl
runs_total (b ∷ line) = before_total b (runs line) ∙ ap suc (runs_total line)

arrows_few : (run : List ℕ) → length (arrows run) ≤ length run
arrows_few [] = omega arith
arrows_few (a ∷ []) = omega arith
arrows_few (a ∷ b ∷ more) = let rest = arrows_few more in omega arith

run_few : (run : List ℕ) → length (words_of_run run) ≤ length run
run_few [] = omega arith
run_few (b ∷ run) =
    elim (is_blank b) as (λ (t : Bool). length (if t then [] else if is_arrow_byte b then arrows (b ∷ run) else (b ∷ run) ∷ [])
    ≤ suc (length run)) [
      | true ↦ omega arith
      | false ↦ elim (is_arrow_byte b) as (λ (t : Bool). length (if t then arrows (b ∷ run) else (b ∷ run) ∷ [])
          ≤ suc (length run))
          [ true ↦ arrows_few (b ∷ run) | false ↦ omega arith ]
    ]

all_few : (found : List (List ℕ)) → length (flat_map words_of_run found) ≤ total found
all_few [] = omega arith
all_few (run ∷ found) =
    let first = run_few run in
    let rest = all_few found in
    omega (arith, length-append (words_of_run run) (flat_map words_of_run found))

pub words_few : (line : List ℕ) → length (words line) ≤ length line
words_few line = omega (arith, all_few (runs line), runs_total line)

pub without_at_few : (line : List ℕ) → length (without_at line) ≤ length line
without_at_few [] = omega arith
without_at_few (b ∷ line) =
    let rest = without_at_few line in
    elim (is_blank b) as (λ (t : Bool). length (if t then without_at line else if b == 64 then line else b ∷ line)
    ≤ suc (length line)) [
      | true ↦ omega arith
      | false ↦ elim (b == 64) as (λ (t : Bool). length (if t then line else b ∷ line) ≤ suc (length line)) [
        | true ↦
            omega arith
        | false ↦ omega arith
      ]
    ]

-- the parts of a text
onto_total : (b : ℕ) (parts : List (List ℕ)) → total (onto_first b parts) ≡ suc (total parts)
onto_total b [] = omega arith
onto_total b (part ∷ parts) = omega arith

pub split_total : (test : ℕ → Bool) (text : List ℕ) → total (slice_split test text) ≤ length text
split_total test [] = omega arith
split_total test (b ∷ text) =
    let rest = split_total test text in
    elim (test b) as (λ (t : Bool). total (cond t ([] ∷ slice_split test text) (onto_first b (slice_split test text)))
    ≤ suc (length text))
    [ true ↦ omega arith | false ↦ omega (arith, onto_total b (slice_split test text)) ]

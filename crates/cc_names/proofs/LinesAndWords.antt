-- The lines of a text and the words of a line, one by one.
use Rattle.std.proofs.Common.{◌≡◌, ◌≢◌, ℕ, ◌+◌, ◌≤◌, Bool, true, false, cond, Option, Some, None, List, [], ◌∷◌, length}
use Rattle.std.proofs.Common.{length-take, not, take, drop, refl, sym, ap, ◌∙◌, arith}
use Rattle.std.specs.Prelude.{nat_lt}
use Rattle.std.specs.List.{position, position_or_len, prefix_len, slice_split, onto_first}
use Rattle.std.proofs.lemmas.List.Splits.{length-slice_split, slice_split-cons_yes}
use Rattle.cc_names.specs.Cuts.{is_newline, is_blank, without_empty_end, lines_of, without_empty, words_of, starts_with_word}
use Rattle.cc_names.specs.Cuts.{before, behind}
use Rattle.cc_names.proofs.Splits.{Some-given, slice_split-at, slice_split-none}

-- one part or more
some_part : (p : ℕ → Bool) (xs : List ℕ) → slice_split p xs ≢ []
some_part p xs e = let l : length (slice_split p xs) ≡ 0 = ap length e in let m = length-slice_split p xs in absurd (omega arith)

without_empty_end-more : (part : List ℕ) (parts : List (List ℕ)) → parts ≢ []
    → without_empty_end (part ∷ parts) ≡ part ∷ without_empty_end parts
without_empty_end-more [] [] h = absurd (h refl)
without_empty_end-more [] (q ∷ qs) h = refl
without_empty_end-more (b ∷ bs) parts h = refl

-- the first line of a text, and the lines after it
pub lines-next : (text : List ℕ) (found : Option ℕ) → text ≢ [] → found ≡ position is_newline text
    → lines_of text ≡ before text found ∷ lines_of (behind text found)
lines-next text (Some place) some h =
    ap without_empty_end (slice_split-at is_newline 0 text place (sym h))
    ∙ without_empty_end-more (take place text) (slice_split is_newline (drop (place + 1) text))
    (some_part is_newline (drop (place + 1) text))
lines-next [] None some h = absurd (some refl)
lines-next (b ∷ bs) None some h = ap without_empty_end (slice_split-none is_newline (b ∷ bs) (sym h))

-- blanks before words
pub words-past_blank : (b : ℕ) (bs : List ℕ) → is_blank b ≡ true → words_of (b ∷ bs) ≡ words_of bs
words-past_blank b bs h = ap without_empty (slice_split-cons_yes is_blank b bs h)

without_empty-more : (part : List ℕ) (parts : List (List ℕ)) → part ≢ []
    → without_empty (part ∷ parts) ≡ part ∷ without_empty parts
without_empty-more [] parts h = absurd (h refl)
without_empty-more (b ∷ bs) parts h = refl

-- the first word of a line that begins with one, and the words after it
pub words-next : (line : List ℕ) (found : Option ℕ) → starts_with_word line ≡ true → found ≡ position is_blank line
    → words_of line ≡ before line found ∷ words_of (behind line found)
words-next [] found h e = cc
words-next (b ∷ bs) None h e = ap without_empty (slice_split-none is_blank (b ∷ bs) (sym e))
words-next (b ∷ bs) (Some place) h e =
    ap without_empty (slice_split-at is_blank 0 (b ∷ bs) place (sym e))
    ∙ without_empty-more (take place (b ∷ bs)) _ (λ none.
    let found = Some-given (nat_lt (position_or_len is_blank (b ∷ bs)) (length (b ∷ bs))) (position_or_len is_blank (b ∷ bs))
    place (sym e) in
    let counted : cond (not (is_blank b)) (1 + prefix_len (λ x. not (is_blank x)) bs) 0 ≡ place = found.1 in
    let starts : not (is_blank b) ≡ true = h in
    let later = rw starts at counted in
    let len : length (take place (b ∷ bs)) ≡ 0 = ap length none in
    let most = length-take place (b ∷ bs) in
    absurd (omega arith))

without_empty_end-short : (part : List ℕ) (parts : List (List ℕ)) → length (without_empty_end (part ∷ parts))
    ≤ 1 + length (without_empty_end parts)
without_empty_end-short [] [] = omega arith
without_empty_end-short [] (q ∷ qs) = omega arith
without_empty_end-short (b ∷ bs) parts = omega arith

first_longer : (b : ℕ) (parts : List (List ℕ)) → length (without_empty_end (onto_first b parts))
    ≤ 1 + length (without_empty_end parts)
first_longer b [] = omega arith
first_longer b ([] ∷ []) = omega arith
first_longer b ([] ∷ q ∷ qs) = omega arith
first_longer b ((c ∷ cs) ∷ parts) = omega arith

-- a text has no more lines than bytes
pub length-lines_of : (text : List ℕ) → length (lines_of text) ≤ length text
length-lines_of [] = omega arith
length-lines_of (b ∷ bs) =
    let more : length (lines_of (b ∷ bs)) ≤ length bs + 1 = by_first (is_newline b) b (slice_split is_newline bs) (length bs)
    (length-lines_of bs) in
    omega arith
  where
    by_first : (newline : Bool) (b : ℕ) (parts : List (List ℕ)) (len : ℕ) → length (without_empty_end parts) ≤ len
        → length (without_empty_end (cond newline ([] ∷ parts) (onto_first b parts))) ≤ len + 1
    by_first true b parts len h = let e = without_empty_end-short [] parts in omega arith
    by_first false b parts len h = let e = first_longer b parts in omega arith

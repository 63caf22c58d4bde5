-- Logical lines, one line of the text after the other.
use Rattle.std.proofs.Common.{◌≡◌, ◌≢◌, ℕ, ◌+◌, ◌<◌, Bool, true, false, Some, None, List, [], ◌∷◌, ◌++◌, length, take, drop}
use Rattle.std.proofs.Common.{refl, sym, ap, ◌∙◌, subst, append_assoc, arith}
use Rattle.make_text.proofs.PieceLemmas.{some_given, none_given}
use Rattle.std.specs.Prelude.{nat_lt}
use Rattle.std.specs.List.{slice_split, position, position_or_len}
use Rattle.std.proofs.lemmas.List.{append-nil}
use Rattle.std.proofs.lemmas.List.Sums.{fails_before_first}
use Rattle.std.proofs.lemmas.List.Splits.{slice_split_none, slice_split_first, length-slice_split}
use borrow.Author.Tests.{ltb-true, ltb-false}
use Rattle.cc_names.specs.Cuts.{is_newline}
use Rattle.make_grammar.specs.Lines.{is_joined}
use Rattle.make_grammar.specs.LogicalLines.{next_number, past_blanks, part_of, without_last_byte, before_line, last_line}
use Rattle.make_grammar.specs.LogicalLines.{ended_line, lines_from}
use Rattle.make_text.specs.JoinedLines.{joined_onto}
use Rattle.make_grammar.specs.declared.logical_lines.LogicalLine.{LogicalLine}

-- ---- cutting at the first newline

-- where the first byte that passes stands at a place, the first part ends there
pub split_at : (p : ℕ → Bool) (xs : List ℕ) (i : ℕ) → position p xs ≡ Some i
    → slice_split p xs ≡ take i xs ∷ slice_split p (drop (i + 1) xs)
split_at p xs i h =
    let found = some_given (nat_lt (position_or_len p xs) (length xs)) (position_or_len p xs) i h in
    subst (λ n. slice_split p xs ≡ take n xs ∷ slice_split p (drop (n + 1) xs)) found.1
    (slice_split_first p xs 0 (ltb-true _ _ found.0))

-- where none passes, the list is the one part
pub split_none : (p : ℕ → Bool) (xs : List ℕ) → position p xs ≡ None → slice_split p xs ≡ xs ∷ []
split_none p xs h =
    let long = ltb-false (position_or_len p xs) (length xs) (none_given _ _ h) in
    slice_split_none p xs (λ k d m. fails_before_first p xs k d (omega arith))

-- there is always a part
some_part : (xs : List ℕ) → slice_split is_newline xs ≢ []
some_part xs e = let l : length (slice_split is_newline xs) ≡ 0 = ap length e in let m = length-slice_split is_newline xs in
    absurd (omega arith)

-- ---- logical lines

ended_part : (joined : Bool) (n : ℕ) (part : List ℕ) (parts : List (List ℕ)) → parts ≢ []
    → lines_from joined n (part ∷ parts) ≡ ended_line n (part_of joined part) (lines_from true (next_number n) parts)
    (lines_from false (next_number n) parts)
ended_part joined n part [] h = absurd (h refl)
ended_part joined n part (next ∷ parts) h = refl

-- a line of the text that a newline ends
ended : (joined : Bool) (n : ℕ) (text part rest : List ℕ) → slice_split is_newline text ≡ part ∷ slice_split is_newline rest
    → lines_from joined n (slice_split is_newline text) ≡ ended_line n (part_of joined part)
    (lines_from true (next_number n) (slice_split is_newline rest)) (lines_from false (next_number n)
    (slice_split is_newline rest))
ended joined n text part rest h = ap (lines_from joined n) h ∙ ended_part joined n part (slice_split is_newline rest)
    (some_part rest)

onto_before : (n m : ℕ) (bytes part : List ℕ) (lines : List LogicalLine)
    → joined_onto n bytes (before_line m part lines) ≡ joined_onto n ((bytes ++ part) ++ (32 ∷ [])) lines
onto_before n m bytes part [] = ap (λ v. record { number = n; bytes = v } ∷ []) (sym (append_assoc bytes part (32 ∷ [])))
onto_before n m bytes part (line ∷ lines) =
    ap (λ v. record { number = n; bytes = v } ∷ lines)
    (sym (append_assoc bytes part (32 ∷ line.bytes)) ∙ sym (append_assoc (bytes ++ part) (32 ∷ []) line.bytes))

-- bytes and a part with a backslash are joined to what follows
pub onto_joined : (n m : ℕ) (text part rest bytes : List ℕ) → slice_split is_newline text ≡ part ∷ slice_split is_newline rest
    → is_joined (past_blanks part) ≡ true → joined_onto n bytes (lines_from true m (slice_split is_newline text))
    ≡ joined_onto n ((bytes ++ without_last_byte (past_blanks part)) ++ (32 ∷ []))
    (lines_from true (next_number m) (slice_split is_newline rest))
onto_joined n m text part rest bytes h j =
    ap (joined_onto n bytes) (ended true m text part rest h)
    ∙ rw j (onto_before n m bytes (without_last_byte (past_blanks part))
    (lines_from true (next_number m) (slice_split is_newline rest)))

-- a part without one ends the line
pub onto_apart : (n m : ℕ) (text part rest bytes : List ℕ) → slice_split is_newline text ≡ part ∷ slice_split is_newline rest
    → is_joined (past_blanks part) ≡ false → joined_onto n bytes (lines_from true m (slice_split is_newline text))
    ≡ record { number = n; bytes = bytes ++ past_blanks part } ∷ lines_from false (next_number m) (slice_split is_newline rest)
onto_apart n m text part rest bytes h j = ap (joined_onto n bytes) (ended true m text part rest h) ∙ rw j refl

onto_last : (n m : ℕ) (bytes part : List ℕ) → joined_onto n bytes (last_line m part)
    ≡ record { number = n; bytes = bytes ++ part } ∷ []
onto_last n m bytes [] = ap (λ v. record { number = n; bytes = v } ∷ []) (sym (append-nil bytes))
onto_last n m bytes (b ∷ bs) = refl

-- so does the end of the text
pub onto_end : (n m : ℕ) (text part bytes : List ℕ) → slice_split is_newline text ≡ part ∷ []
    → joined_onto n bytes (lines_from true m (slice_split is_newline text))
    ≡ record { number = n; bytes = bytes ++ past_blanks part } ∷ []
onto_end n m text part bytes h = ap (λ v. joined_onto n bytes (lines_from true m v)) h ∙ onto_last n m bytes (past_blanks part)

first_onto : (n : ℕ) (part : List ℕ) (lines : List LogicalLine) → before_line n part lines
    ≡ joined_onto n (part ++ (32 ∷ [])) lines
first_onto n part [] = refl
first_onto n part (line ∷ lines) = ap (λ v. record { number = n; bytes = v } ∷ lines)
    (sym (append_assoc part (32 ∷ []) line.bytes))

-- a first line with a backslash
pub first_joined : (n : ℕ) (text part rest : List ℕ) → slice_split is_newline text ≡ part ∷ slice_split is_newline rest
    → is_joined part ≡ true → lines_from false n (slice_split is_newline text)
    ≡ joined_onto n (without_last_byte part ++ (32 ∷ [])) (lines_from true (next_number n) (slice_split is_newline rest))
first_joined n text part rest h j = ended false n text part rest h ∙ rw j (first_onto n (without_last_byte part) _)

-- and without one
pub first_apart : (n : ℕ) (text part rest : List ℕ) → slice_split is_newline text ≡ part ∷ slice_split is_newline rest
    → is_joined part ≡ false → lines_from false n (slice_split is_newline text) ≡ record { number = n; bytes = part }
    ∷ lines_from false (next_number n) (slice_split is_newline rest)
first_apart n text part rest h j = ended false n text part rest h ∙ rw j refl

last_whole : (n : ℕ) (part : List ℕ) → 0 < length part → last_line n part ≡ record { number = n; bytes = part } ∷ []
last_whole n [] h = absurd (omega arith)
last_whole n (b ∷ bs) h = refl

-- a first line that is the last
pub first_last : (n : ℕ) (text part : List ℕ) → slice_split is_newline text ≡ part ∷ [] → 0 < length part
    → lines_from false n (slice_split is_newline text) ≡ record { number = n; bytes = part } ∷ []
first_last n text part h some = ap (lines_from false n) h ∙ last_whole n part some

-- ---- the steps of the code, by what its calls gave

-- The bytes of a logical line that is joined so far, and the text after them, from line number m on.
module _ (text bytes : List ℕ) (m : ℕ) where
  pub joined_step : (rest : List ℕ) {line part prefix extended pushed : List ℕ} {next : ℕ}
      → slice_split is_newline text ≡ line ∷ slice_split is_newline rest → part ≡ past_blanks line → is_joined part ≡ true
      → prefix ≡ without_last_byte part → extended ≡ bytes ++ prefix → pushed ≡ extended ++ (32 ∷ []) → next ≡ next_number m
      → (n : ℕ) → joined_onto n pushed (lines_from true next (slice_split is_newline rest))
      ≡ joined_onto n bytes (lines_from true m (slice_split is_newline text))
  joined_step rest {line} {part} {prefix} {extended} {pushed} {next} cut stripped joined back ext push number n =
      let fits : is_joined (past_blanks line) ≡ true = ap is_joined (sym stripped) ∙ joined in
      let whole : pushed ≡ (bytes ++ without_last_byte (past_blanks line)) ++ (32 ∷ []) = push
      ∙ ap (λ v. v ++ (32 ∷ [])) (ext ∙ ap (λ v. bytes ++ v) (back ∙ ap without_last_byte stripped)) in
      ap (λ v. joined_onto n v (lines_from true next (slice_split is_newline rest))) whole
      ∙ ap (λ v. joined_onto n ((bytes ++ without_last_byte (past_blanks line)) ++ (32 ∷ []))
      (lines_from true v (slice_split is_newline rest))) number
      ∙ sym (onto_joined n m text line rest bytes cut fits)

  pub apart_step : (rest : List ℕ) {line part extended : List ℕ} {next : ℕ}
      → slice_split is_newline text ≡ line ∷ slice_split is_newline rest → part ≡ past_blanks line → is_joined part ≡ false
      → extended ≡ bytes ++ part → next ≡ next_number m → (n : ℕ) → joined_onto n bytes
      (lines_from true m (slice_split is_newline text)) ≡ record { number = n; bytes = extended }
      ∷ lines_from false next (slice_split is_newline rest)
  apart_step rest {line} {part} {extended} {next} cut stripped apart ext number n =
      let fits : is_joined (past_blanks line) ≡ false = ap is_joined (sym stripped) ∙ apart in
      let whole : extended ≡ bytes ++ past_blanks line = ext ∙ ap (λ v. bytes ++ v) stripped in
      onto_apart n m text line rest bytes cut fits
      ∙ ap (λ v. record { number = n; bytes = v } ∷ lines_from false (next_number m) (slice_split is_newline rest)) (sym whole)
      ∙ ap (λ v. record { number = n; bytes = extended } ∷ lines_from false v (slice_split is_newline rest)) (sym number)

  pub end_step : {line part extended : List ℕ} → slice_split is_newline text ≡ line ∷ []
      → part ≡ past_blanks line → extended ≡ bytes ++ part → (n : ℕ) → joined_onto n bytes
      (lines_from true m (slice_split is_newline text)) ≡ record { number = n; bytes = extended } ∷ []
  end_step {line} {part} {extended} cut stripped ext n =
      onto_end n m text line bytes cut
      ∙ ap (λ v. record { number = n; bytes = v } ∷ []) (ap (λ v. bytes ++ v) (sym stripped) ∙ sym ext)

pub first_joined_step : (text rest : List ℕ) (n : ℕ) {line prefix bytes pushed : List ℕ} {next : ℕ} {whole : List LogicalLine}
    → slice_split is_newline text ≡ line ∷ slice_split is_newline rest → is_joined line ≡ true → prefix ≡ without_last_byte line
    → bytes ≡ prefix → pushed ≡ bytes ++ (32 ∷ []) → next ≡ next_number n
    → joined_onto n pushed (lines_from true next (slice_split is_newline rest)) ≡ whole
    → lines_from false n (slice_split is_newline text) ≡ whole
first_joined_step text rest n {line} {prefix} {bytes} {pushed} {next} {whole} cut joined back first push number more =
    let start : pushed ≡ without_last_byte line ++ (32 ∷ []) = push ∙ ap (λ v. v ++ (32 ∷ [])) (first ∙ back) in
    first_joined n text line rest cut joined
    ∙ ap (λ v. joined_onto n v (lines_from true (next_number n) (slice_split is_newline rest))) (sym start)
    ∙ ap (λ v. joined_onto n pushed (lines_from true v (slice_split is_newline rest))) (sym number)
    ∙ more

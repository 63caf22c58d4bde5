-- How the forms of a text go on after its first line or its first occurrence of some bytes.
use Rattle.std.proofs.Common.{◌≡◌, ℕ, zero, suc, ◌+◌, ◌-◌, ◌<◌, ◌≤◌, Bool, true, false, Some, None, List, [], ◌∷◌, ◌++◌, length}
use Rattle.std.proofs.Common.{take, drop, refl, ap, sym, ◌∙◌, subst, if◌then◌else◌, arith, append_assoc, length-append}
use Rattle.std.proofs.Common.{length-drop, drop-drop, not}
use Rattle.std.proofs.lemmas.List.{append-nil, length-take, take-append-drop}
use Rattle.std.proofs.Math.Seq.{take-append_seam}
use Rattle.std.proofs.lemmas.Slice.Eq.{bytes_eq-Decides}
use Rattle.std.specs.Prelude.{nat_lt}
use Rattle.std.specs.List.{flat_map, position, position_or_len}
use Rattle.std.specs.Str.{bytes_eq}
use borrow.Author.Tests.{ltb-true, ltb-false}
use Rattle.cc_names.specs.Cuts.{is_newline}
use Rattle.cc_names.proofs.Splits.{Some-given}
use Rattle.memchr.specs.Find.{OccursAt, FindsNeedle}
use Rattle.memchr.proofs.lemmas.MatchLemmas.{OccursAt-part, OccursAt-from_part}
use Rattle.script_grammar.specs.Forms.{before_lines, lines_in, first_lines, replaced_behind, with_replaced}

none-given : (b : Bool) (n : ℕ) → (if b then Some n else None) ≡ None → b ≡ false
none-given true n h = cc
none-given false n h = refl

-- the first line ends with the first newline
cut_at : (text : List ℕ) → position_or_len is_newline text < length text →
    lines_in text ≡ take (position_or_len is_newline text + 1) text ∷ lines_in (drop (position_or_len is_newline text + 1) text)
cut_at [] h = absurd (omega arith)
cut_at (b ∷ bytes) h = by (is_newline b) refl h (cut_at bytes)
  where
    n : ℕ
    n = position_or_len is_newline bytes

    by : (t : Bool) → is_newline b ≡ t → (if not t then 1 + n else 0) < suc (length bytes) →
        (n < length bytes → lines_in bytes ≡ take (n + 1) bytes ∷ lines_in (drop (n + 1) bytes)) →
        (if t then (b ∷ []) ∷ lines_in bytes else before_lines b (lines_in bytes))
        ≡ take ((if not t then 1 + n else 0) + 1) (b ∷ bytes) ∷ lines_in (drop ((if not t then 1 + n else 0) + 1) (b ∷ bytes))
    by true e h rest = refl
    by false e h rest =
        let one : 1 + n + 1 ≡ suc (n + 1) = omega arith in
        rw one (rw (rest (omega arith)) refl)

-- a text without a newline is one line
uncut : (b : ℕ) (bytes : List ℕ) → length (b ∷ bytes) ≤ position_or_len is_newline (b ∷ bytes)
    → lines_in (b ∷ bytes) ≡ (b ∷ bytes) ∷ []
uncut b [] h = by (is_newline b) h
  where
    by : (t : Bool) → 1 ≤ (if not t then 1 + 0 else 0) → (if t then (b ∷ []) ∷ [] else before_lines b []) ≡ (b ∷ []) ∷ []
    by true h = refl
    by false h = refl
uncut b (c ∷ bytes) h = by (is_newline b) h (uncut c bytes)
  where
    n : ℕ
    n = position_or_len is_newline (c ∷ bytes)

    by : (t : Bool) → suc (length (c ∷ bytes)) ≤ (if not t then 1 + n else 0)
        → (length (c ∷ bytes) ≤ n → lines_in (c ∷ bytes) ≡ (c ∷ bytes) ∷ []) →
        (if t then (b ∷ []) ∷ lines_in (c ∷ bytes) else before_lines b (lines_in (c ∷ bytes))) ≡ (b ∷ c ∷ bytes) ∷ []
    by true h rest = absurd (omega arith)
    by false h rest = ap (before_lines b) (rest (omega arith))

pub lines_in-at : (text : List ℕ) (place : ℕ) → position is_newline text ≡ Some place
    → lines_in text ≡ take (place + 1) text ∷ lines_in (drop (place + 1) text)
lines_in-at text place h =
    let found = Some-given (nat_lt (position_or_len is_newline text) (length text)) (position_or_len is_newline text) place h in
    subst (λ n. lines_in text ≡ take (n + 1) text ∷ lines_in (drop (n + 1) text)) found.1 (cut_at text (ltb-true _ _ found.0))

pub lines_in-none : (text : List ℕ) → position is_newline text ≡ None → 0 < length text → lines_in text ≡ text ∷ []
lines_in-none [] h some = absurd (omega arith)
lines_in-none (b ∷ bytes) h some = uncut b bytes (ltb-false _ _ (none-given _ (position_or_len is_newline (b ∷ bytes)) h))

-- Lines that were taken off a text: what is left of it, and how many lines are left to take.
pub record Taken (text rest : List ℕ) (number left : ℕ) : Type 0 where
  pub prefix : List ℕ
  pub whole : text ≡ prefix ++ rest
  pub same : first_lines number text ≡ prefix ++ first_lines left rest

pub taken_none : (text : List ℕ) (number left : ℕ) → left ≡ number → Taken text text number left
taken_none text number left e = record { prefix = []; whole = refl; same = ap (λ n. first_lines n text) (sym e) }

pub taken_more : (text rest line behind : List ℕ) (number left left' : ℕ) → Taken text rest number left → left ≡ suc left'
    → lines_in rest ≡ line ∷ lines_in behind → rest ≡ line ++ behind →
    Taken text behind number left'
taken_more text rest line behind number left left' taken e lines is = record {
  prefix = taken.prefix ++ line;
  whole = taken.whole ∙ ap (λ l. taken.prefix ++ l) is ∙ sym (append_assoc taken.prefix line behind);
  same = taken.same ∙ ap (λ n. taken.prefix ++ first_lines n rest) e ∙ ap
      (λ ls. taken.prefix ++ flat_map (λ (l : List ℕ). l) (take (suc left') ls)) lines
      ∙ sym (append_assoc taken.prefix line (first_lines left' behind));
}

first_lines-nil : (number : ℕ) → first_lines number [] ≡ []
first_lines-nil zero = refl
first_lines-nil (suc n) = refl

taken_prefix : (text prefix rest : List ℕ) → text ≡ prefix ++ rest → take (length text - length rest) text ≡ prefix
taken_prefix text prefix rest e =
    let n : length text - length rest ≡ length prefix = omega (arith, ap length e, length-append prefix rest) in
    rw n (rw e (take-append_seam prefix rest))

pub taken_all : (text rest : List ℕ) (number left : ℕ) → Taken text rest number left → left ≡ 0
    → take (length text - length rest) text ≡ first_lines number text
taken_all text rest number left taken e =
    taken_prefix text taken.prefix rest taken.whole ∙ sym (taken.same ∙ ap (λ n. taken.prefix ++ first_lines n rest) e
    ∙ append-nil taken.prefix)

pub taken_ended : (text rest : List ℕ) (number left : ℕ) → Taken text rest number left → rest ≡ []
    → take (length text - length rest) text ≡ first_lines number text
taken_ended text rest number left taken e =
    taken_prefix text taken.prefix rest taken.whole ∙ sym (taken.same ∙ ap (λ l. taken.prefix ++ first_lines left l) e
    ∙ ap (λ l. taken.prefix ++ l) (first_lines-nil left) ∙ append-nil taken.prefix)

pub taken_within : (text rest : List ℕ) (number left : ℕ) → Taken text rest number left → length rest ≤ length text
taken_within text rest number left taken = omega (arith, ap length taken.whole, length-append taken.prefix rest)

-- bytes that are passed over
passed : (from to bytes : List ℕ) (skip : ℕ) → replaced_behind from to skip bytes ≡ replaced_behind from to 0 (drop skip bytes)
passed from to bytes zero = refl
passed from to [] (suc skip) = refl
passed from to (b ∷ bytes) (suc skip) = passed from to bytes skip

-- an occurrence at the beginning is replaced
hit : (from to text : List ℕ) → 0 < length from → take (length from) text ≡ from
    → replaced_behind from to 0 text ≡ to ++ replaced_behind from to 0 (drop (length from) text)
hit [] to text some e = absurd (omega arith)
hit (f ∷ from) to [] some e = cc
hit (f ∷ from) to (b ∷ bytes) some e =
    let there : bytes_eq (take (length (f ∷ from)) (b ∷ bytes)) (f ∷ from) ≡ true = (bytes_eq-Decides _ (f ∷ from)).1 e in
    let one : length (f ∷ from) - 1 ≡ length from = omega arith in
    rw there (rw one (ap (λ l. to ++ l) (passed (f ∷ from) to bytes (length from))))

-- bytes before the first occurrence stay
missed : (from to text : List ℕ) (k : ℕ) → k ≤ length text → ((j : ℕ) → j < k
    → bytes_eq (take (length from) (drop j text)) from ≡ false) →
    replaced_behind from to 0 text ≡ take k text ++ replaced_behind from to 0 (drop k text)
missed from to text zero low none = refl
missed from to [] (suc k) low none = absurd (omega arith)
missed from to (b ∷ bytes) (suc k) low none =
    let here : bytes_eq (take (length from) (b ∷ bytes)) from ≡ false = none 0 (omega arith) in
    rw here (ap (λ l. b ∷ l) (missed from to bytes k (omega arith) (λ j high. none (suc j) (omega arith))))

-- where it occurs nowhere, the test fails
fails_at : (from text : List ℕ) (j : ℕ) → (j + length from ≤ length text → ¬ OccursAt text from j) → 0 < length from
    → bytes_eq (take (length from) (drop j text)) from ≡ false
fails_at from text j none some = by (bytes_eq (take (length from) (drop j text)) from) refl
  where
    by : (t : Bool) → bytes_eq (take (length from) (drop j text)) from ≡ t → t ≡ false
    by false e = refl
    by true e =
        let is = (bytes_eq-Decides (take (length from) (drop j text)) from).0 e in
        let fits : j + length from ≤ length text = omega (
          arith,
          ap length is,
          length-take (length from) (drop j text),
          length-drop j text,
        ) in
        absurd (none fits (OccursAt-from_part text from j fits is))

-- up to and with the first occurrence
pub with_replaced-at : (from to text : List ℕ) (k : ℕ) → 0 < length from → FindsNeedle text from 0 (Some k) →
    replaced_behind from to 0 text ≡ take k text ++ (to ++ replaced_behind from to 0 (drop (k + length from) text))
with_replaced-at from to text k some found =
    let fits = found.1.fits in
    missed from to text k (omega arith) (λ j high. fails_at from text j (λ f. found.0.before j (omega arith) high) some)
    ∙ ap (λ l. take k text ++ l) (hit from to (drop k text) some (OccursAt-part text from k found.1)
    ∙ ap (λ l. to ++ replaced_behind from to 0 l) (drop-drop (length from) k text))

-- a text without an occurrence stays
pub with_replaced-none : (from to text : List ℕ) → 0 < length from → FindsNeedle text from 0 None
    → replaced_behind from to 0 text ≡ text
with_replaced-none from to text some none =
    missed from to text (length text) (omega arith) (λ j high. fails_at from text j (λ f. none j (omega arith) (omega arith))
    some)
    ∙ ap (λ l. l ++ replaced_behind from to 0 (drop (length text) text)) all
    ∙ ap (λ l. text ++ replaced_behind from to 0 l) behind ∙ append-nil text
  where
    behind : drop (length text) text ≡ []
    behind = by (drop (length text) text) (length-drop (length text) text)
      where
        by : (l : List ℕ) → length l ≡ length text - length text → l ≡ []
        by [] e = refl
        by (b ∷ l) e = absurd (omega arith)

    all : take (length text) text ≡ text
    all = sym (append-nil (take (length text) text)) ∙ ap (λ l. take (length text) text ++ l) (sym behind)
        ∙ take-append-drop (length text) text

pub with_replaced-some : (from to text : List ℕ) → 0 < length from → with_replaced from to text ≡ replaced_behind from to 0 text
with_replaced-some [] to text some = absurd (omega arith)
with_replaced-some (f ∷ from) to text some = refl

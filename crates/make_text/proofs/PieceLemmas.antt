-- The pieces of a text, up to its first `$` and up to the end of a name.
use Rattle.std.proofs.Common.{◌≡◌, ℕ, suc, ◌+◌, ◌<◌, ◌≤◌, Bool, true, false, cond, not, ◌==◌, Some, None, List, [], ◌∷◌, ◌++◌}
use Rattle.std.proofs.Common.{length, map, take, drop, refl, sym, ap, ◌∙◌, append_assoc, one-add, add-one, arith}
use Rattle.std.specs.Prelude.{nat_lt, if◌then◌else◌}
use Rattle.std.specs.List.{list_any, position, position_or_len}
use Rattle.std.proofs.lemmas.List.{append-nil, take_all, drop_all}
use borrow.Author.Tests.{ltb-true, ltb-false}
use Rattle.make_grammar.specs.Lines.{is_dollar}
use Rattle.make_text.specs.Scanning.{pieces_in}
use Rattle.make_text.specs.declared.pieces.Part as lent
use Rattle.make_text.specs.declared.pieces.Part.TheVariants as variants
use Rattle.make_grammar.specs.Macros.{Piece, Byte, Bad, Dollar, Name, pieces_from, pieces_of, piece_of_name, is_bad_dollar}

-- ---- up to the first `$`

abbrev prefix : (n : ℕ) (text : List ℕ) → List Piece
prefix n text = map Byte (take n text) ++ pieces_of (drop n text)

plain_step : (t : Bool) (b n : ℕ) (bs : List ℕ) → (b == 36) ≡ t → pieces_of bs ≡ prefix n bs
    → pieces_of (b ∷ bs) ≡ prefix (cond (not t) (1 + n) 0) (b ∷ bs)
plain_step true b n bs e h = refl
plain_step false b n bs e h =
    let one : pieces_of (b ∷ bs) ≡ Byte b ∷ pieces_of bs = ap (λ v. if v then pieces_from Dollar bs else Byte b ∷ pieces_of bs) e
    in
    one ∙ ap (λ v. Byte b ∷ v) h ∙ ap (λ k. prefix k (b ∷ bs)) (sym (one-add n))

-- the bytes before the first `$` stand for themselves
pub plain_prefix : (text : List ℕ) → pieces_of text ≡ prefix (position_or_len is_dollar text) text
plain_prefix [] = refl
plain_prefix (b ∷ bs) = plain_step (b == 36) b (position_or_len is_dollar bs) bs refl (plain_prefix bs)

pub some_given : (b : Bool) (n i : ℕ) → cond b (Some n) None ≡ Some i → (b ≡ true) × (n ≡ i)
some_given true n i h = (refl, cc)
some_given false n i h = cc

pub none_given : (b : Bool) (n : ℕ) → cond b (Some n) None ≡ None → b ≡ false
none_given true n h = cc
none_given false n h = refl

pub plain_to : (text : List ℕ) (i : ℕ) → position is_dollar text ≡ Some i
    → pieces_of text ≡ map Byte (take i text) ++ pieces_of (drop i text)
plain_to text i h =
    let found = some_given (nat_lt (position_or_len is_dollar text) (length text)) (position_or_len is_dollar text) i h in
    plain_prefix text ∙ ap (λ n. prefix n text) found.1

take_whole : (n : ℕ) (text : List ℕ) → length text ≤ n → prefix n text ≡ map Byte text ++ []
take_whole n text h = rw (take_all n text h, drop_all n text h) refl

pub plain_all : (text : List ℕ) → position is_dollar text ≡ None → pieces_of text ≡ map Byte text ++ []
plain_all text h =
    let long = ltb-false (position_or_len is_dollar text) (length text) (none_given _ _ h) in
    plain_prefix text ∙ take_whole (position_or_len is_dollar text) text long

dollar_step : (t : Bool) (b n : ℕ) (bs : List ℕ) → (b == 36) ≡ t → cond (not t) (1 + n) 0 ≡ 0
    → pieces_of (b ∷ bs) ≡ pieces_from Dollar bs
dollar_step true b n bs e h = ap (λ v. if v then pieces_from Dollar bs else Byte b ∷ pieces_of bs) e
dollar_step false b n bs e h = absurd (omega arith)

-- a `$` that comes first begins a reference
pub dollar_first : (text : List ℕ) → position is_dollar text ≡ Some 0 → pieces_of text ≡ pieces_from Dollar (drop 1 text)
dollar_first [] h = cc
dollar_first (b ∷ bs) h =
    let found = some_given (nat_lt (position_or_len is_dollar (b ∷ bs)) (length (b ∷ bs))) (position_or_len is_dollar (b ∷ bs)) 0
    h in
    dollar_step (b == 36) b (position_or_len is_dollar bs) bs refl found.1

-- ---- up to the end of a name

abbrev closes : ℕ → ℕ → Bool
closes close b = b == close

closed_step : (t : Bool) (close b n : ℕ) (name bs : List ℕ) → (b == close) ≡ t → cond (not t) (1 + n) 0 < suc (length bs)
    → (n < length bs → pieces_from (Name close (name ++ (b ∷ []))) bs ≡ piece_of_name ((name ++ (b ∷ [])) ++ take n bs)
    ∷ pieces_of (drop (n + 1) bs)) → pieces_from (Name close name) (b ∷ bs)
    ≡ piece_of_name (name ++ take (cond (not t) (1 + n) 0) (b ∷ bs)) ∷ pieces_of (drop (cond (not t) (1 + n) 0 + 1) (b ∷ bs))
closed_step true close b n name bs e l h =
    ap (λ v. if v then piece_of_name name ∷ pieces_of bs else pieces_from (Name close (name ++ (b ∷ []))) bs) e
    ∙ ap (λ v. piece_of_name v ∷ pieces_of bs) (sym (append-nil name))
closed_step false close b n name bs e l h =
    let one_on : piece_of_name (name ++ (b ∷ take n bs)) ∷ pieces_of (drop (n + 1) bs)
    ≡ piece_of_name (name ++ take (1 + n) (b ∷ bs)) ∷ pieces_of (drop (1 + n + 1) (b ∷ bs)) = simp (one-add, add-one) in
    let parts : (name ++ (b ∷ [])) ++ take n bs ≡ name ++ (b ∷ take n bs) = append_assoc name (b ∷ []) (take n bs) in
    ap (λ v. if v then piece_of_name name ∷ pieces_of bs else pieces_from (Name close (name ++ (b ∷ []))) bs) e
    ∙ h (omega arith)
    ∙ ap (λ v. piece_of_name v ∷ pieces_of (drop (n + 1) bs)) parts
    ∙ one_on

closed_prefix : (close : ℕ) (name text : List ℕ) → position_or_len (closes close) text < length text
    → pieces_from (Name close name) text ≡ piece_of_name (name ++ take (position_or_len (closes close) text) text)
    ∷ pieces_of (drop (position_or_len (closes close) text + 1) text)
closed_prefix close name [] l = absurd (omega arith)
closed_prefix close name (b ∷ bs) l = closed_step (b == close) close b (position_or_len (closes close) bs) name bs refl l
    (closed_prefix close (name ++ (b ∷ [])) bs)

open_step : (t : Bool) (close b n : ℕ) (name bs : List ℕ) → (b == close) ≡ t → suc (length bs) ≤ cond (not t) (1 + n) 0
    → (length bs ≤ n → pieces_from (Name close (name ++ (b ∷ []))) bs ≡ Bad ∷ [])
    → pieces_from (Name close name) (b ∷ bs) ≡ Bad ∷ []
open_step true close b n name bs e l h = absurd (omega arith)
open_step false close b n name bs e l h =
    ap (λ v. if v then piece_of_name name ∷ pieces_of bs else pieces_from (Name close (name ++ (b ∷ []))) bs) e ∙ h (omega arith)

open_prefix : (close : ℕ) (name text : List ℕ) → length text ≤ position_or_len (closes close) text
    → pieces_from (Name close name) text ≡ Bad ∷ []
open_prefix close name [] l = refl
open_prefix close name (b ∷ bs) l = open_step (b == close) close b (position_or_len (closes close) bs) name bs refl l
    (open_prefix close (name ++ (b ∷ [])) bs)

-- a name ends at the first byte that closes it
pub name_to : (close i : ℕ) (text : List ℕ) → position (λ b. b == close) text ≡ Some i
    → pieces_from (Name close []) text ≡ piece_of_name (take i text) ∷ pieces_of (drop (i + 1) text)
name_to close i text h =
    let found = some_given (nat_lt (position_or_len (closes close) text) (length text)) (position_or_len (closes close) text) i h
    in
    closed_prefix close [] text (ltb-true _ _ found.0) ∙ ap (λ n. piece_of_name (take n text) ∷ pieces_of (drop (n + 1) text))
    found.1

pub name_open : (close : ℕ) (text : List ℕ) → position (λ b. b == close) text ≡ None → pieces_from (Name close []) text ≡ Bad ∷ []
name_open close text h =
    open_prefix close [] text (ltb-false (position_or_len (closes close) text) (length text) (none_given _ _ h))

-- ---- parts

plain_bytes_pass : (bytes : List ℕ) (later : List Piece) → list_any is_bad_dollar (map Byte bytes ++ later)
    ≡ list_any is_bad_dollar later
plain_bytes_pass [] later = refl
plain_bytes_pass (b ∷ bs) later = plain_bytes_pass bs later

-- a part that is no bad `$` changes nothing of whether there is one
pub passing_part : (part : lent.Part) (later : List Piece) → (part ≡ variants.Bad → ⊥)
    → list_any is_bad_dollar (pieces_in part ++ later) ≡ list_any is_bad_dollar later
passing_part (variants.Bytes bytes) later h = plain_bytes_pass bytes.now later
passing_part (variants.Reference name) later h = refl
passing_part (variants.Automatic b) later h = refl
passing_part variants.Bad later h = absurd (h refl)

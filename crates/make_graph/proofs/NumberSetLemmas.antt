-- The bits of words, and what sets of numbers have.
use Rattle.std.proofs.Common.{◌≡◌, ◌≢◌, inl, inr, refl, sym, ap, ◌∙◌, ℕ, zero, suc, ◌+◌, ◌-◌, ◌*◌, ◌/◌, ◌%◌, ◌<◌, ◌≤◌, ◌==◌, ◌↔◌}
use Rattle.std.proofs.Common.{nat_lt, Bool, true, false, ◌||◌, List, [], ◌∷◌, ◌++◌, length, get_or, set, take, replicate}
use Rattle.std.proofs.Common.{length-append, arith}
use Rattle.std.proofs.lemmas.Bool.{ltb-true, cases_Bool}
use Rattle.std.proofs.lemmas.Bool.Decides.{nat_tests}
use Rattle.std.proofs.lemmas.List.{get_or-set_same, get_or-set_other, get_or_append_left, get_or-append-add, get_or_past}
use Rattle.std.proofs.lemmas.List.{length-replicate, length-take-le, take_more}
use Rattle.std.proofs.lemmas.Nat.{and_le_r, or_disjoint}
use Rattle.std.proofs.lemmas.Nat.Bits.{bit_at_lowest, bit_at-suc, bit_at-zero, bit_at_or, bit_at-lt}
use Rattle.std.proofs.lemmas.Option.{unwrap_or-slice_get, get_or_from_slice_get, slice_get_read}
use Rattle.std.specs.Int.{bit_at}
use Rattle.std.specs.Int.RustNames.{bit_or}
use Rattle.std.specs.Prelude.{max, IsTrue}
use Rattle.cc_names.proofs.Common.{or_true, or_false}
use Rattle.make_graph.specs.NumberSets.{word_bits, bits_of, has_number}
use Rattle.make_graph.specs.Waits.{is_marked}

length_word : (k word : ℕ) → length (word_bits k word) ≡ k
unfolding word_bits
length_word zero word = refl
length_word (suc k) word = ap suc (length_word k (word / 2))

word_bit : (k word i : ℕ) → i < k → get_or (word_bits k word) i false ≡ (bit_at word i == 1)
unfolding word_bits
word_bit zero word i h = absurd (omega (arith, h))
word_bit (suc k) word zero h = ap (λ b. b == 1) (sym (bit_at_lowest word))
word_bit (suc k) word (suc i) h = word_bit k (word / 2) i (omega (arith, h)) ∙ ap (λ b. b == 1) (sym (bit_at-suc word i))

pub length_bits : (words : List ℕ) → length (bits_of words) ≡ length words * 64
unfolding bits_of
length_bits [] = refl
length_bits (word ∷ words) =
    let both : length (bits_of (word ∷ words)) ≡ length (word_bits 64 word) + length (bits_of words) =
    length-append (word_bits 64 word) (bits_of words) in
    omega (arith, both, length_word 64 word, length_bits words)

first_word : (word : ℕ) (words : List ℕ) (n : ℕ) → n < 64 → get_or (word_bits 64 word ++ bits_of words) n false
    ≡ has_number (word ∷ words) n
first_word word words n lt =
    let first : n / 64 ≡ 0 = omega (arith, lt) in
    let place : n % 64 ≡ n = omega (arith, lt) in
    get_or_append_left (word_bits 64 word) (bits_of words) false n (omega (arith, lt, length_word 64 word))
    ∙ (word_bit 64 word n lt
    ∙ sym (ap (λ i. bit_at (get_or (word ∷ words) i 0) (n % 64) == 1) first ∙ ap (λ i. bit_at word i == 1) place))

other_words : (word : ℕ) (words : List ℕ) (n : ℕ) → 64 ≤ n → get_or (bits_of words) (n - 64) false ≡ has_number words (n - 64) →
    get_or (word_bits 64 word ++ bits_of words) n false ≡ has_number (word ∷ words) n
other_words word words n ge rest =
    let at : n ≡ length (word_bits 64 word) + (n - 64) = omega (arith, ge, length_word 64 word) in
    let quotient : n / 64 ≡ suc ((n - 64) / 64) = omega (arith, ge) in
    let place : n % 64 ≡ (n - 64) % 64 = omega (arith, ge) in
    ap (λ i. get_or (word_bits 64 word ++ bits_of words) i false) at
    ∙ (get_or-append-add (word_bits 64 word) (bits_of words) (n - 64) false
    ∙ (rest
    ∙ sym (ap (λ i. bit_at (get_or (word ∷ words) i 0) (n % 64) == 1) quotient
    ∙ ap (λ i. bit_at (get_or words ((n - 64) / 64) 0) i == 1) place)))

bits_at : (words : List ℕ) (n : ℕ) → get_or (bits_of words) n false ≡ has_number words n
unfolding bits_of
bits_at [] n = ap (λ b. b == 1) (sym (bit_at-zero (n % 64)))
bits_at (word ∷ words) n =
    elim (cases_Bool (nat_lt n 64)) [
      | inl h ↦ first_word word words n (ltb-true _ _ h)
      | inr h ↦ let ge : 64 ≤ n = grind (arith, nat_tests) in other_words word words n ge (bits_at words (n - 64))
    ]

pub marked : (words : List ℕ) (n : ℕ) → is_marked (bits_of words) n ≡ has_number words n
marked words n = unwrap_or-slice_get (bits_of words) n false ∙ bits_at words n

pub number_added : (words : List ℕ) (number word n : ℕ) → number / 64 < length words → bit_at word (number % 64) ≡ 1 →
    ((i : ℕ) → i ≢ number % 64 → bit_at word i ≡ bit_at (get_or words (number / 64) 0) i) →
    has_number (set words (number / 64) word) n ≡ (has_number words n || (n == number))
number_added words number word n within is others = by (n / 64 == number / 64) (n % 64 == number % 64) refl refl
  where
    by : (q p : Bool) → (n / 64 == number / 64) ≡ q → (n % 64 == number % 64) ≡ p →
        has_number (set words (number / 64) word) n ≡ (has_number words n || (n == number))
    by true true hq hp =
        let quotient : n / 64 ≡ number / 64 = grind (arith, nat_tests) in
        let place : n % 64 ≡ number % 64 = grind (arith, nat_tests) in
        let same : n ≡ number = omega (arith, quotient, place) in
        let one : (n == number) ≡ true = grind (arith, nat_tests) in
        ap (λ i. bit_at (get_or (set words (number / 64) word) i 0) (n % 64) == 1) quotient
        ∙ (ap (λ w. bit_at w (n % 64) == 1) (get_or-set_same words (number / 64) word 0 within)
        ∙ (ap (λ i. bit_at word i == 1) place
        ∙ (ap (λ b. b == 1) is
        ∙ sym (ap (λ t. has_number words n || t) one ∙ or_true (has_number words n)))))
    by true false hq hp =
        let quotient : n / 64 ≡ number / 64 = grind (arith, nat_tests) in
        let apart : n % 64 ≢ number % 64 = λ e. grind (arith, nat_tests) in
        let none : (n == number) ≡ false = grind (arith, nat_tests) in
        ap (λ i. bit_at (get_or (set words (number / 64) word) i 0) (n % 64) == 1) quotient
        ∙ (ap (λ w. bit_at w (n % 64) == 1) (get_or-set_same words (number / 64) word 0 within)
        ∙ (ap (λ b. b == 1) (others (n % 64) apart)
        ∙ (ap (λ i. bit_at (get_or words i 0) (n % 64) == 1) (sym quotient)
        ∙ sym (ap (λ t. has_number words n || t) none ∙ or_false (has_number words n)))))
    by false p hq hp =
        let apart : n / 64 ≢ number / 64 = λ e. grind (arith, nat_tests) in
        let none : (n == number) ≡ false = grind (arith, nat_tests) in
        ap (λ w. bit_at w (n % 64) == 1) (get_or-set_other words (number / 64) (n / 64) word 0 apart)
        ∙ sym (ap (λ t. has_number words n || t) none ∙ or_false (has_number words n))

-- all numbers of another set more
max_bit : (a b : ℕ) → a < 2 → b < 2 → (max a b == 1) ≡ ((a == 1) || (b == 1))
max_bit zero zero h k = refl
max_bit zero (suc zero) h k = refl
max_bit (suc zero) zero h k = refl
max_bit (suc zero) (suc zero) h k = refl
max_bit zero (suc (suc b)) h k = absurd (omega (arith, k))
max_bit (suc zero) (suc (suc b)) h k = absurd (omega (arith, k))
max_bit (suc (suc a)) b h k = absurd (omega (arith, h))

pub numbers_joined : (old other new : List ℕ) → ((k : ℕ) → get_or new k 0 ≡ bit_or (get_or old k 0) (get_or other k 0)) →
    (n : ℕ) → has_number new n ≡ (has_number old n || has_number other n)
numbers_joined old other new joined n =
    let a = get_or old (n / 64) 0 in
    let b = get_or other (n / 64) 0 in
    ap (λ w. bit_at w (n % 64) == 1) (joined (n / 64))
    ∙ (ap (λ x. x == 1) (bit_at_or a b (n % 64))
    ∙ max_bit (bit_at a (n % 64)) (bit_at b (n % 64)) (bit_at-lt a (n % 64)) (bit_at-lt b (n % 64)))

-- no number
zeros : (k i : ℕ) → get_or (replicate k zero) i zero ≡ zero
zeros zero i = refl
zeros (suc k) zero = refl
zeros (suc k) (suc i) = zeros k i

pub none_marked : (words : List ℕ) (k n : ℕ) → words ≡ replicate k 0 → is_marked (bits_of words) n ≡ false
none_marked words k n is =
    marked words n
    ∙ (ap (λ (l : List ℕ). bit_at (get_or l (n / 64) 0) (n % 64) == 1) is
    ∙ (ap (λ w. bit_at w (n % 64) == 1) (zeros k (n / 64))
    ∙ ap (λ b. b == 1) (bit_at-zero (n % 64))))

pub room : (words : List ℕ) (k : ℕ) → words ≡ replicate k 0 → length (bits_of words) ≡ k * 64
room words k is = length_bits words ∙ ap (λ l. l * 64) (ap length is ∙ length-replicate k 0)

pub same_room : (one other : List ℕ) → length one ≡ length other → length (bits_of one) ≡ length (bits_of other)
same_room one other same = length_bits one ∙ (ap (λ l. l * 64) same ∙ sym (length_bits other))

-- a word that was read
pub read_at : (words : List ℕ) (i word : ℕ) → i < length words → word ≡ get_or words i word → word ≡ get_or words i 0
read_at words i word within at = sym (get_or_from_slice_get words i word 0
    (slice_get_read words (length words) i word refl within at))

-- a test of a bit
pub truth : (r : Bool) (b : ℕ) → (IsTrue r ↔ (b ≡ 1)) → r ≡ (b == 1)
truth true b h = sym (let one : b ≡ 1 = h.0 refl in grind (arith, nat_tests))
truth false b h = by (b == 1) refl
  where
    by : (t : Bool) → (b == 1) ≡ t → false ≡ (b == 1)
    by true e = absurd (let one : b ≡ 1 = grind (arith, nat_tests) in let no : false ≡ true = h.1 one in cc)
    by false e = sym e

-- words of which the first were joined with those of another set
abbrev pub Joined : List ℕ → List ℕ → List ℕ → Type 0
Joined old other new = (k : ℕ) → get_or new k 0 ≡ bit_or (get_or old k 0) (get_or other k 0)

or_zero : (a : ℕ) → bit_or a 0 ≡ a
or_zero a = or_disjoint a 0 (omega (arith, and_le_r a 0)) ∙ omega arith

pub none_joined : (old other : List ℕ) → Joined old (take 0 other) old
none_joined old other k = sym (or_zero (get_or old k 0))

pub one_joined : (old other new : List ℕ) (i : ℕ) → i < length other → i < length new → Joined old (take i other) new →
    Joined old (take (i + 1) other) (set new i (bit_or (get_or new i 0) (get_or other i 0)))
one_joined old other new i within room joined k = by (k == i) (nat_lt k i) refl refl
  where
    size : length (take i other) ≡ i
    size = length-take-le i other (omega (arith, within))

    more : take (i + 1) other ≡ take i other ++ get_or other i 0 ∷ []
    more = take_more other i 0 within

    at : get_or (take i other ++ get_or other i 0 ∷ []) i 0 ≡ get_or other i 0
    at = ap (λ j. get_or (take i other ++ get_or other i 0 ∷ []) j 0) (let e : i ≡ length (take i other) + 0 = omega (arith, size)
        in e) ∙ get_or-append-add (take i other) (get_or other i 0 ∷ []) 0 0

    by : (e l : Bool) → (k == i) ≡ e → nat_lt k i ≡ l →
        get_or (set new i (bit_or (get_or new i 0) (get_or other i 0))) k 0
        ≡ bit_or (get_or old k 0) (get_or (take (i + 1) other) k 0)
    by true l he hl =
        let same : k ≡ i = grind (arith, nat_tests) in
        let past : get_or (take i other) i 0 ≡ 0 = get_or_past (take i other) i 0 (omega (arith, size)) in
        ap (λ j. get_or (set new i (bit_or (get_or new i 0) (get_or other i 0))) j 0) same
        ∙ (get_or-set_same new i (bit_or (get_or new i 0) (get_or other i 0)) 0 room
        ∙ (ap (λ w. bit_or w (get_or other i 0)) (joined i ∙ (ap (bit_or (get_or old i 0)) past ∙ or_zero (get_or old i 0)))
        ∙ (ap (bit_or (get_or old i 0)) (sym at)
        ∙ (ap (λ (l : List ℕ). bit_or (get_or old i 0) (get_or l i 0)) (sym more)
        ∙ ap (λ j. bit_or (get_or old j 0) (get_or (take (i + 1) other) j 0)) (sym same)))))
    by false true he hl =
        let apart : k ≢ i = λ e. grind (arith, nat_tests) in
        let lt : k < i = ltb-true _ _ hl in
        get_or-set_other new i k (bit_or (get_or new i 0) (get_or other i 0)) 0 apart
        ∙ (joined k
        ∙ ap (bit_or (get_or old k 0))
        (sym (ap (λ (l : List ℕ). get_or l k 0) more ∙ get_or_append_left (take i other) (get_or other i 0 ∷ []) 0 k
        (omega (arith, lt, size)))))
    by false false he hl =
        let apart : k ≢ i = λ e. grind (arith, nat_tests) in
        let gt : i < k = grind (arith, nat_tests) in
        let both : length (take i other ++ get_or other i 0 ∷ []) ≡ length (take i other) + 1 =
        length-append (take i other) (get_or other i 0 ∷ []) in
        get_or-set_other new i k (bit_or (get_or new i 0) (get_or other i 0)) 0 apart
        ∙ (joined k
        ∙ ap (bit_or (get_or old k 0))
        (get_or_past (take i other) k 0 (omega (arith, gt, size))
        ∙ sym (ap (λ (l : List ℕ). get_or l k 0) more ∙ get_or_past (take i other ++ get_or other i 0 ∷ []) k 0
        (omega (arith, gt, size, both)))))

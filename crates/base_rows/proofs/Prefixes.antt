-- The first rows of a base: which part of the list of rows they are, how many, and that they are a base too.
use Rattle.std.proofs.Common.{◌≡◌, ℕ, suc, ◌-◌, ◌<◌, ◌≤◌, true, false, nat_lt, min, [], ◌∷◌, ◌++◌, length, reverse}
use Rattle.std.proofs.Common.{take, refl, ap, sym, ◌∙◌, arith}
use Rattle.std.proofs.lemmas.Bool.Decides.{nat_tests}
use Rattle.std.proofs.lemmas.List.{length-reverse, reverse-append, reverse-reverse, take_all, take-append-le, length-append}
use Rattle.std.proofs.lemmas.List.{length-take, length-take-le, take-take}
use Rattle.std.proofs.lemmas.Bool.{and_parts}
use Rattle.cc_names.specs.Formed.{Plain}
use Rattle.base_model.specs.Rows.{Base, size, first_rows}
use Rattle.base_model.specs.Fits.{deed_fits, fits, is_base, row_limit}
use Rattle.base_rows.specs.BasePrefix.{IsBasePrefix}

reverse_more : (row : Plain) (older : Base) → reverse (row ∷ older) ≡ reverse older ++ row ∷ []
reverse_more row older = reverse-append (row ∷ []) older

-- the first t rows of a base, row 0 included, are the first t - 1 of the list of its rows
first_of_newest : (b : Base) (t : ℕ) → first_rows t b ≡ reverse (take (t - 1) (reverse b))
first_of_newest [] t = sym (ap reverse (take_all (t - 1) [] (omega arith)))
first_of_newest (row ∷ older) t =
    elim (nat_lt (size older) t) as (λ within. nat_lt (size older) t ≡ within
    → elim within [ true ↦ row ∷ older | false ↦ first_rows t older ] ≡ reverse (take (t - 1) (reverse older ++ row ∷ []))) [
      | true ↦ λ e.
          let long : length (reverse older ++ row ∷ []) ≤ t - 1 = grind (
            arith,
            nat_tests,
            length-append (reverse older) (row ∷ []),
            length-reverse older,
          ) in
          sym (ap reverse (take_all (t - 1) (reverse older ++ row ∷ []) long) ∙ reverse-append (reverse older) (row ∷ [])
          ∙ ap (λ rows. row ∷ rows) (reverse-reverse older))
      | false ↦ λ e.
          let short : t - 1 ≤ length (reverse older) = grind (arith, nat_tests, length-reverse older) in
          first_of_newest older t ∙ sym (ap reverse (take-append-le (t - 1) (reverse older) (row ∷ []) short))
    ] refl
    ∙ sym (ap (λ rows. reverse (take (t - 1) rows)) (reverse_more row older))

-- as a slice has them, from the oldest on
pub first_of_slice : (rows : Base) (count : ℕ) → reverse (take count rows) ≡ first_rows (suc count) (reverse rows)
first_of_slice rows count =
    let less : suc count - 1 ≡ count = omega arith in
    sym (first_of_newest (reverse rows) (suc count) ∙ ap (λ all. reverse (take (suc count - 1) all)) (reverse-reverse rows)
    ∙ ap (λ n. reverse (take n rows)) less)

-- how many the first rows are
pub size_of_first : (b : Base) (count : ℕ) → count ≤ length b → size (first_rows (suc count) b) ≡ suc count
size_of_first b count within =
    let less : suc count - 1 ≡ count = omega arith in
    let fewer : count ≤ length (reverse b) = omega (arith, length-reverse b) in
    ap size (first_of_newest b (suc count) ∙ ap (λ n. reverse (take n (reverse b))) less)
    ∙ ap suc (length-reverse (take count (reverse b)) ∙ length-take-le count (reverse b) fewer)

-- the first rows of a base are a base
pub fitting_first : (t : ℕ) (b : Base) → is_base b ≡ true → is_base (first_rows t b) ≡ true
fitting_first t [] fitting = fitting
fitting_first t (row ∷ older) fitting =
    elim (nat_lt (size older) t) as (λ within. is_base (elim within as (λ _. Base) [
      | true ↦ row ∷ older
      | false ↦
          first_rows t older
    ]) ≡ true) [
      | true ↦ fitting
      | false ↦ fitting_first t older (and_parts (fits older row.deed) (is_base older) fitting).1
    ]

-- all rows are a prefix
pub all_prefix : (b : Base) → is_base b ≡ true → IsBasePrefix (length b) b
all_prefix b fitting = record { within = omega arith; fitting = fitting_first (suc (length b)) b fitting }

take_of_take : (m n : ℕ) (rows : Base) → take m (take n rows) ≡ take (min m n) rows
take_of_take m n rows =
    elim (nat_lt n m) as (λ more. nat_lt n m ≡ more → take m (take n rows) ≡ take (min m n) rows) [
      | true ↦ λ e.
          let some : min m n ≡ n = grind (arith, nat_tests) in
          let few : length (take n rows) ≤ m = grind (arith, nat_tests, length-take n rows) in
          take_all m (take n rows) few ∙ ap (λ k. take k rows) (sym some)
      | false ↦ λ e.
          let some : min m n ≡ m = grind (arith, nat_tests) in
          let few : m ≤ n = grind (arith, nat_tests) in
          take-take m n rows few ∙ ap (λ k. take k rows) (sym some)
    ] refl

-- the first rows of a prefix
pub first_of_prefix : (b : Base) (t count : ℕ) → first_rows (suc (min (t - 1) count)) b ≡ first_rows t (first_rows (suc count) b)
first_of_prefix b t count =
    let prefix : (n : ℕ) → first_rows (suc n) b ≡ reverse (take n (reverse b)) = λ n.
    let less : suc n - 1 ≡ n = omega arith in
    first_of_newest b (suc n) ∙ ap (λ k. reverse (take k (reverse b))) less in
    prefix (min (t - 1) count)
    ∙ ap reverse (sym (take_of_take (t - 1) count (reverse b)))
    ∙ ap (λ rows. reverse (take (t - 1) rows)) (sym (reverse-reverse (take count (reverse b))) ∙ ap reverse (sym (prefix count)))
    ∙ sym (first_of_newest (first_rows (suc count) b) t)

-- fewer rows are a prefix too
pub shorter_prefix : (b : Base) (count cut : ℕ) → is_base b ≡ true → count ≤ length b → cut ≤ count → IsBasePrefix cut b
shorter_prefix b count cut fitting within less = record { within = omega arith; fitting = fitting_first (suc cut) b fitting }

-- a base has fewer rows than its limit
pub base_short : (b : Base) → is_base b ≡ true → length b < row_limit
base_short [] fitting = omega arith
base_short (row ∷ older) fitting =
    let below = and_parts (nat_lt (size older) row_limit) (deed_fits older row.deed)
    (and_parts (fits older row.deed) (is_base older) fitting).0 in
    grind (arith, nat_tests, below.0)

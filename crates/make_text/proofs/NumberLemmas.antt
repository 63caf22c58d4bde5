-- Numbers that are given to paths one after the other are those of what makes them first.
use Rattle.std.proofs.Common.{◌≡◌, refl, sym, ap, ◌∙◌, ℕ, ◌+◌, ◌<◌, Bool, true, false, ◌||◌, Option, Some, None, List, [], ◌∷◌}
use Rattle.std.proofs.Common.{◌++◌, length, drop, get_or, if◌then◌else◌, drop-cons, add-one, arith}
use Rattle.std.specs.Str.{bytes_eq}
use Rattle.make_grammar.specs.Macros.{is_among}
use Rattle.make_grammar.specs.Numbers.{number_from}
use Rattle.make_text.specs.Numbered.{with_numbers, number_or}

had_stays : (number : ℕ) (paths : List (List ℕ)) (other : List ℕ) (had : ℕ)
    → with_numbers number paths other (Some had) ≡ Some had
had_stays number [] other had = refl
had_stays number (path ∷ paths) other had = had_stays number paths other had

gets : (number : ℕ) (paths : List (List ℕ)) (other : List ℕ) → with_numbers number paths other None
    ≡ (if is_among paths other then Some number else None)
gets number [] other = refl
gets number (path ∷ paths) other = by (bytes_eq other path) (gets number paths other)
  where
    by : (t : Bool) → with_numbers number paths other None ≡ (if is_among paths other then Some number else None) →
        with_numbers number paths other (if t then Some number else None)
        ≡ (if t || is_among paths other then Some number else None)
    by true rest = had_stays number paths other number
    by false rest = rest

pub number_next : {A : Type 0} (targets : A → List (List ℕ)) (i : ℕ) (path : List ℕ) (x : A) (rest : List A) (had : Option ℕ) →
    number_or targets (i + 1) path rest (with_numbers i (targets x) path had) ≡ number_or targets i path (x ∷ rest) had
number_next targets i path x rest (Some had) = ap (number_or targets (i + 1) path rest) (had_stays i (targets x) path had)
number_next targets i path x rest None = ap (number_or targets (i + 1) path rest) (gets i (targets x) path)
    ∙ by (is_among (targets x) path)
  where
    by : (t : Bool) → number_or targets (i + 1) path rest (if t then Some i else None)
        ≡ elim t as (λ b. Option ℕ) [ true ↦ Some i | false ↦ number_from targets (i + 1) path rest ]
    by true = refl
    by false = refl

-- one more of a list that is numbered from the start
pub numbered_more : {A : Type 0} (targets : A → List (List ℕ)) (i : ℕ) (path : List ℕ) (x : A) (items : List A)
    (had all : Option ℕ) → i < length items → get_or items i x ≡ x →
    number_or targets i path (drop i items) had ≡ all → number_or targets (i + 1) path (drop (i + 1) items)
    (with_numbers i (targets x) path had) ≡ all
numbered_more targets i path x items had all within at before =
    let e : drop i items ≡ x ∷ drop (i + 1) items = rw (drop-cons items i x, at, add-one) refl in
    number_next targets i path x (drop (i + 1) items) had ∙ (ap (λ l. number_or targets i path l had) (sym e) ∙ before)

-- one more after a list that is numbered
pub numbered_new : {A : Type 0} (targets : A → List (List ℕ)) (m n : ℕ) (path : List ℕ) (x : A) (items : List A)
    → m ≡ n + length items →
    with_numbers m (targets x) path (number_from targets n path items) ≡ number_from targets n path (items ++ x ∷ [])
numbered_new targets m n path x [] h =
    let same : m ≡ n = omega (arith, h) in
    gets m (targets x) path ∙ (ap (λ k. if is_among (targets x) path then Some k else None) same ∙ by (is_among (targets x) path))
  where
    by : (t : Bool) → (if t then Some n else None) ≡ elim t as (λ b. Option ℕ) [ true ↦ Some n | false ↦ None ]
    by true = refl
    by false = refl
numbered_new {A} targets m n path x (y ∷ items) h = by (is_among (targets y) path)
    (numbered_new targets m (n + 1) path x items (omega (arith, h)))
  where
    by : (t : Bool) → with_numbers m (targets x) path (number_from targets (n + 1) path items)
        ≡ number_from targets (n + 1) path (items ++ x ∷ []) →
        with_numbers m (targets x) path (elim t as (λ b. Option ℕ) [
          | true ↦ Some n
          | false ↦
              number_from targets (n + 1) path items
        ])
        ≡ elim t as (λ b. Option ℕ) [ true ↦ Some n | false ↦ number_from targets (n + 1) path (items ++ x ∷ []) ]
    by true rest = had_stays m (targets x) path n
    by false rest = rest

-- a number is below the length
pub number_within : {A : Type 0} (targets : A → List (List ℕ)) (n : ℕ) (path : List ℕ) (items : List A) (m : ℕ)
    → number_from targets n path items ≡ Some m → m < n + length items
number_within targets n path [] m h = absurd (cc)
number_within {A} targets n path (x ∷ items) m h = by (is_among (targets x) path) h (number_within targets (n + 1) path items m)
  where
    by : (t : Bool) → elim t as (λ b. Option ℕ) [ true ↦ Some n | false ↦ number_from targets (n + 1) path items ] ≡ Some m →
        (number_from targets (n + 1) path items ≡ Some m → m < n + 1 + length items) → m < n + length (x ∷ items)
    by true h more = let same : n ≡ m = cc in omega (arith, same)
    by false h more = let rest = more h in omega (arith, rest)

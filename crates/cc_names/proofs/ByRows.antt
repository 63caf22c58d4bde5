-- Lists in order of rows: where a search ends, and what it finds.
use Rattle.std.proofs.Common.{◌≡◌, ℕ, zero, suc, ◌-◌, ◌<◌, ◌≤◌, Bool, true, false, cond, eqb, ltb, List, [], ◌∷◌, ◌++◌, length}
use Rattle.std.proofs.Common.{get_or, take, map, reverse, Option, Some, None, refl, inl, inr, sym, ap, ◌∙◌, ◌⊎◌, arith}
use Rattle.std.specs.Prelude.{filter, find}
use Rattle.std.specs.List.Sorted.{IsNonDecreasingBy, IsPartitionPoint}
use Rattle.std.specs.Option.{option_or}
use Rattle.std.proofs.lemmas.List.{reverse-append, length-reverse, length-append, get_or-reverse, get_or_default, append-nil}
use Rattle.std.proofs.Math.ListN.{get_or-append}
use Rattle.std.proofs.Math.Seq.{get_or-append_seam}
use Rattle.std.proofs.lemmas.List.Folds.{find-append}
use Rattle.std.proofs.lemmas.List.Elements.{filter-append}
use Rattle.std.proofs.lemmas.Bool.{cases_lt}
use Rattle.std.proofs.lemmas.Bool.Decides.{nat_tests}
use Rattle.cc_names.specs.Falling.{IsAbove, Falls}

module _ {X : Type 0} (n : X → ℕ) where
  -- a row above a list is above each of its items
  pub above_at : (row : ℕ) (xs : List X) → IsAbove row (map n xs) → (k : ℕ) (d : X) → k < length xs → n (get_or xs k d) < row
  above_at row [] above k d within = absurd (omega arith)
  above_at row (x ∷ xs) above zero d within = above.0
  above_at row (x ∷ xs) above (suc k) d within = above_at row xs above.1 k d (omega arith)

  -- in a list that falls, what stands further back is lower
  pub falls_at : (xs : List X) → Falls (map n xs) → (i j : ℕ) (d : X) → i ≤ j → j < length xs
      → n (get_or xs j d) ≤ n (get_or xs i d)
  falls_at [] falls i j d le within = absurd (omega arith)
  falls_at (x ∷ xs) falls zero zero d le within = omega arith
  falls_at (x ∷ xs) falls zero (suc j) d le within = let below : n (get_or xs j d) < n x =
      above_at (n x) xs falls.0 j d (omega arith) in omega arith
  falls_at (x ∷ xs) falls (suc i) zero d le within = absurd (omega arith)
  falls_at (x ∷ xs) falls (suc i) (suc j) d le within = falls_at xs falls.1 i j d (omega arith) (omega arith)

  -- the same list, read from its other end, does not decrease
  pub rises : (xs : List X) → Falls (map n (reverse xs)) → IsNonDecreasingBy n xs
  rises xs falls i j d le within =
      let back_i : get_or (reverse xs) (length xs - 1 - i) d ≡ get_or xs i d =
      get_or-reverse xs (length xs - 1 - i) d (omega arith) ∙ ap (λ k. get_or xs k d) (omega arith) in
      let back_j : get_or (reverse xs) (length xs - 1 - j) d ≡ get_or xs j d =
      get_or-reverse xs (length xs - 1 - j) d (omega arith) ∙ ap (λ k. get_or xs k d) (omega arith) in
      let fall = falls_at (reverse xs) falls (length xs - 1 - j) (length xs - 1 - i) d (omega arith)
      (omega (arith, length-reverse xs)) in
      rw (← back_i, ← back_j) fall

  -- the same list rises, so no two items have the same row
  pub falls_below : (xs : List X) → Falls (map n xs) → (i j : ℕ) (d : X) → i < j → j < length xs
      → n (get_or xs j d) < n (get_or xs i d)
  falls_below [] falls i j d lt within = absurd (omega arith)
  falls_below (x ∷ xs) falls i zero d lt within = absurd (omega arith)
  falls_below (x ∷ xs) falls zero (suc j) d lt within = above_at (n x) xs falls.0 j d (omega arith)
  falls_below (x ∷ xs) falls (suc i) (suc j) d lt within = falls_below xs falls.1 i j d (omega arith) (omega arith)

  pub rises_below : (xs : List X) → Falls (map n (reverse xs)) → (i j : ℕ) (d : X) → i < j → j < length xs
      → n (get_or xs i d) < n (get_or xs j d)
  rises_below xs falls i j d lt within =
      let back_i : get_or (reverse xs) (length xs - 1 - i) d ≡ get_or xs i d =
      get_or-reverse xs (length xs - 1 - i) d (omega arith) ∙ ap (λ k. get_or xs k d) (omega arith) in
      let back_j : get_or (reverse xs) (length xs - 1 - j) d ≡ get_or xs j d =
      get_or-reverse xs (length xs - 1 - j) d (omega arith) ∙ ap (λ k. get_or xs k d) (omega arith) in
      let fall = falls_below (reverse xs) falls (length xs - 1 - j) (length xs - 1 - i) d (omega arith)
      (omega (arith, length-reverse xs)) in
      rw (← back_i, ← back_j) fall

-- a list in which nothing passes
pub find_nothing : {X : Type 0} (q : X → Bool) (xs : List X) → ((k : ℕ) (d : X) → k < length xs → q (get_or xs k d) ≡ false)
    → find q xs ≡ None
find_nothing q [] fails = refl
find_nothing q (x ∷ xs) fails = rw (fails 0 x (omega arith)) (find_nothing q xs (λ k d within. fails (suc k) d (omega arith)))

-- the first that passes
pub find_first : {X : Type 0} (q : X → Bool) (xs : List X) (i : ℕ) (d : X) → i < length xs
    → ((k : ℕ) (e : X) → k < i → q (get_or xs k e) ≡ false) → q (get_or xs i d) ≡ true → find q xs ≡ Some (get_or xs i d)
find_first q [] i d within fails passes = absurd (omega arith)
find_first q (x ∷ xs) zero d within fails passes = rw passes refl
find_first q (x ∷ xs) (suc i) d within fails passes = rw (fails 0 x (omega arith))
    (find_first q xs i d (omega arith) (λ k e lt. fails (suc k) e (omega arith)) passes)

module _ {X : Type 0} (n : X → ℕ) (xs : List X) (row i : ℕ) (falls : Falls (map n (reverse xs)))
    (parted : IsPartitionPoint (λ x. ltb (n x) row ≡ true) (λ x. ltb (n x) row ≡ false) xs i) where
  -- the item where the search ended has the row
  pub find_at_row : (d : X) → i < length xs → n (get_or xs i d) ≡ row → find (λ x. eqb (n x) row) xs ≡ Some (get_or xs i d)
  find_at_row d within same = find_first (λ x. eqb (n x) row) xs i d within
      (λ k e lt. grind (arith, nat_tests, parted.0 k e (omega arith) lt)) (grind (arith, nat_tests))

  -- it has another row
  pub find_other_row : (d : X) → i < length xs → eqb (n (get_or xs i d)) row ≡ false → find (λ x. eqb (n x) row) xs ≡ None
  find_other_row d within differs = find_nothing (λ x. eqb (n x) row) xs fails
    where
      fails : (k : ℕ) (e : X) → k < length xs → eqb (n (get_or xs k e)) row ≡ false
      fails k e in_range = elim (cases_lt k i) [
        | inl lt ↦ grind (arith, nat_tests, parted.0 k e (omega arith) lt)
        | inr ge ↦ elim (cases_lt i k) [
          | inl lt ↦ grind (arith, nat_tests, parted.1 i e (omega arith) within, rises_below n xs falls i k e lt in_range)
          | inr le ↦
              let same : k ≡ i = omega arith in
              let there : get_or xs k e ≡ get_or xs i d = ap (λ j. get_or xs j e) same ∙ get_or_default xs i e d within in
              rw there differs
        ]
      ]

  -- there is no item after
  pub find_past : length xs ≤ i → find (λ x. eqb (n x) row) xs ≡ None
  find_past past = find_nothing (λ x. eqb (n x) row) xs (λ k e in_range. grind (
    arith,
    nat_tests,
    parted.0 k e (omega arith) (omega arith),
  ))

-- a filter of a list read from its other end
pub filter-reverse : {X : Type 0} (p : X → Bool) (xs : List X) → filter p (reverse xs) ≡ reverse (filter p xs)
filter-reverse p [] = refl
filter-reverse p (x ∷ xs) =
    rw (reverse-append (x ∷ []) xs, filter-append p (reverse xs) (x ∷ []), filter-reverse p xs) (ends (p x))
  where
    ends : (b : Bool) → reverse (filter p xs) ++ cond b (x ∷ []) [] ≡ reverse (cond b (x ∷ filter p xs) (filter p xs))
    ends true = sym (reverse-append (x ∷ []) (filter p xs))
    ends false = append-nil (reverse (filter p xs))

module _ {X : Type 0} (n : X → ℕ) where
  -- the prefix of a list that falls falls
  pub falls_prefix : (xs ys : List X) → Falls (map n (xs ++ ys)) → Falls (map n xs)
  falls_prefix [] ys falls = tt
  falls_prefix (x ∷ xs) ys falls = (above_prefix (n x) xs falls.0, falls_prefix xs ys falls.1)
    where
      above_prefix : (row : ℕ) (zs : List X) → IsAbove row (map n (zs ++ ys)) → IsAbove row (map n zs)
      above_prefix row [] above = tt
      above_prefix row (z ∷ zs) above = (above.0, above_prefix row zs above.1)

  -- what a row is found at stands alone, so the order of the search does not matter
  pub find-reverse : (row : ℕ) (xs : List X) → Falls (map n (reverse xs))
      → find (λ x. eqb (n x) row) (reverse xs) ≡ find (λ x. eqb (n x) row) xs
  find-reverse row [] falls = refl
  find-reverse row (x ∷ xs) falls =
      let q : X → Bool = λ y. eqb (n y) row in
      let apart : Falls (map n (reverse xs ++ x ∷ [])) = rw (reverse-append (x ∷ []) xs) at falls in
      let rest : find q (reverse xs) ≡ find q xs = find-reverse row xs (falls_prefix (reverse xs) (x ∷ []) apart) in
      rw (reverse-append (x ∷ []) xs, find-append q (reverse xs) (x ∷ [])) (elim (eqb_cases (n x) row) [
        | inl same ↦
            let none : find q (reverse xs) ≡ None = find_nothing q (reverse xs) (λ k d within. above_last apart same k d within)
            in
            rw (none, same) refl
        | inr differs ↦ rw (rest, differs) (option_or-None (find q xs))
      ])
    where
      eqb_cases : (a b : ℕ) → (eqb a b ≡ true) ⊎ (eqb a b ≡ false)
      eqb_cases a b = elim (eqb a b) as (λ t. (t ≡ true) ⊎ (t ≡ false)) [ true ↦ inl refl | false ↦ inr refl ]

      option_or-None : {Y : Type 0} (o : Option Y) → option_or o None ≡ o
      option_or-None None = refl
      option_or-None (Some y) = refl

      above_last : Falls (map n (reverse xs ++ x ∷ [])) → eqb (n x) row ≡ true → (k : ℕ) (d : X) → k < length (reverse xs)
          → eqb (n (get_or (reverse xs) k d)) row ≡ false
      above_last apart same k d within =
          let below : n (get_or (reverse xs ++ x ∷ []) (length (reverse xs)) d) < n (get_or (reverse xs ++ x ∷ []) k d) =
          falls_below n (reverse xs ++ x ∷ []) apart k (length (reverse xs)) d within
          (omega (arith, length-append (reverse xs) (x ∷ []))) in
          let last : get_or (reverse xs ++ x ∷ []) (length (reverse xs)) d ≡ x = get_or-append_seam (reverse xs) x [] d in
          let here : get_or (reverse xs ++ x ∷ []) k d ≡ get_or (reverse xs) k d =
          get_or-append (reverse xs) (x ∷ []) d k within in
          let lower : n x < n (get_or (reverse xs) k d) = rw (last, here) at below in
          grind (arith, nat_tests)

-- the items that pass a test are the first ones, up to where a search ended
pub filter_first : {X : Type 0} (p : X → Bool) (xs : List X) (i : ℕ) → i ≤ length xs
    → IsPartitionPoint (λ x. p x ≡ true) (λ x. p x ≡ false) xs i → filter p xs ≡ take i xs
filter_first p [] zero within parted = refl
filter_first p [] (suc i) within parted = absurd (omega arith)
filter_first p (x ∷ xs) zero within parted =
    let rest = filter_first p xs zero (omega arith) (
      (λ k d low high. absurd (omega arith)),
      (λ k d low high. parted.1 (suc k) d (omega arith) (omega arith)),
    ) in
    rw (parted.1 0 x (omega arith) (omega arith)) rest
filter_first p (x ∷ xs) (suc i) within parted =
    let rest = filter_first p xs i (omega arith) (
      (λ k d low high. parted.0 (suc k) d (omega arith) (omega arith)),
      (λ k d low high. parted.1 (suc k) d (omega arith) (omega arith)),
    ) in
    rw (parted.0 0 x (omega arith) (omega arith)) (ap (λ ys. x ∷ ys) rest)

-- Sums over a list in which one element is changed, or that has one more.
use Rattle.std.proofs.Common.{◌≡◌, ◌≢◌, ℕ, zero, suc, ◌+◌, ◌≤◌, List, [], ◌∷◌, set, refl, sym, ap, arith, sum_by}
use Rattle.std.proofs.lemmas.List.Sums.{sum_by-cons}
use mathlib.Core.Option.{some, some-injective, some-ne-none}
use lib.ListN.{get_elem?}

module _ {A : Type 0} where
  pub sum_by-at_set : (f : A → ℕ) (xs : List A) (i : ℕ) (a b : A) → get_elem? xs i ≡ some a
      → sum_by f (set xs i b) + f a ≡ sum_by f xs + f b
  sum_by-at_set f [] i a b e = absurd (some-ne-none a (sym e))
  sum_by-at_set f (x ∷ xs) zero a b e = let same : f x ≡ f a = ap f (some-injective x a e) in
      omega (arith, same, sum_by-cons f x xs, sum_by-cons f b xs)
  sum_by-at_set f (x ∷ xs) (suc i) a b e = omega (
    arith,
    sum_by-at_set f xs i a b e,
    sum_by-cons f x xs,
    sum_by-cons f x (set xs i b),
  )

  pub at-le-sum_by : (f : A → ℕ) (xs : List A) (i : ℕ) (a : A) → get_elem? xs i ≡ some a → f a ≤ sum_by f xs
  at-le-sum_by f [] i a e = absurd (some-ne-none a (sym e))
  at-le-sum_by f (x ∷ xs) zero a e = let same : f x ≡ f a = ap f (some-injective x a e) in omega (arith, same, sum_by-cons f x xs)
  at-le-sum_by f (x ∷ xs) (suc i) a e = omega (arith, at-le-sum_by f xs i a e, sum_by-cons f x xs)

  -- two elements count both
  pub two-le-sum_by : (f : A → ℕ) (xs : List A) (i j : ℕ) (a b : A) → i ≢ j → get_elem? xs i ≡ some a → get_elem? xs j ≡ some b
      → f a + f b ≤ sum_by f xs
  two-le-sum_by f [] i j a b apart e d = absurd (some-ne-none a (sym e))
  two-le-sum_by f (x ∷ xs) zero zero a b apart e d = absurd (apart refl)
  two-le-sum_by f (x ∷ xs) zero (suc j) a b apart e d = let same : f x ≡ f a = ap f (some-injective x a e) in
      omega (arith, same, at-le-sum_by f xs j b d, sum_by-cons f x xs)
  two-le-sum_by f (x ∷ xs) (suc i) zero a b apart e d = let same : f x ≡ f b = ap f (some-injective x b d) in
      omega (arith, same, at-le-sum_by f xs i a e, sum_by-cons f x xs)
  two-le-sum_by f (x ∷ xs) (suc i) (suc j) a b apart e d = omega (
    arith,
    two-le-sum_by f xs i j a b (λ s. apart (ap suc s)) e d,
    sum_by-cons f x xs,
  )

  -- a sum is no more than another where each term is no more
  pub sum_by-le_at : (f g : A → ℕ) (xs : List A) → ((i : ℕ) (a : A) → get_elem? xs i ≡ some a → f a ≤ g a)
      → sum_by f xs ≤ sum_by g xs
  sum_by-le_at f g [] below = omega arith
  sum_by-le_at f g (x ∷ xs) below = omega (
    arith,
    below 0 x refl,
    sum_by-le_at f g xs (λ i. below (suc i)),
    sum_by-cons f x xs,
    sum_by-cons g x xs,
  )

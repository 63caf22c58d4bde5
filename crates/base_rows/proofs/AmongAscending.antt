-- A binary search in a list that ascends finds just what is in it.
use Rattle.std.proofs.Common.{◌≡◌, ℕ, ◌<◌, ◌≤◌, ◌==◌, suc, true, false, ◌||◌, List, [], ◌∷◌, length, get_or, Result, Ok, Err}
use Rattle.std.proofs.Common.{refl, sym, ap₂, arith}
use Rattle.std.specs.Prelude.{is_ok}
use Rattle.std.specs.List.{list_any}
use Rattle.std.specs.List.Sorted.{IsBinarySearchResult, IsStrictlySortedBy}
use Rattle.std.specs.Ordering.{nat_cmp}
use Rattle.std.proofs.lemmas.Bool.Decides.{nat_tests}
use Rattle.std.proofs.lemmas.List.Folds.{list_any_at}
use Rattle.std.proofs.lemmas.List.Sorted.{searched}
use Rattle.std.proofs.lemmas.Map.Keys.{non_decreasing_from_sorted}

none_among : (x : ℕ) (xs : List ℕ) → ((k : ℕ) → k < length xs → (get_or xs k 0 == x) ≡ false)
    → list_any (λ y. y == x) xs ≡ false
none_among x [] apart = refl
none_among x (y ∷ ys) apart =
    ap₂ (λ here rest. here || rest) (apart 0 (omega arith)) (none_among x ys (λ k within. apart (suc k) (omega (arith, within))))

same_number : (m n : ℕ) → m ≡ n → (m == n) ≡ true
same_number m n same = grind (arith, nat_tests)

-- The search finds a place just where the list has the number.
pub among_ascending : (xs : List ℕ) (x : ℕ) (r : Result ℕ ℕ) → IsBinarySearchResult (λ y. nat_cmp y x) xs r
    → IsStrictlySortedBy nat_cmp xs → is_ok r ≡ list_any (λ y. y == x) xs
among_ascending xs x (Ok i) found sorted =
    let there = searched xs x (Ok i) found (λ i j. non_decreasing_from_sorted xs sorted i j 0) in
    sym (list_any_at (λ y. y == x) xs i 0 there.0 (same_number (get_or xs i 0) x there.1))
among_ascending xs x (Err i) found sorted =
    let there = searched xs x (Err i) found (λ i j. non_decreasing_from_sorted xs sorted i j 0) in
    sym (none_among x xs (λ k within. by k (there.1 k) (λ behind. there.2 k behind within)))
  where
    by : (k : ℕ) → (k < i → get_or xs k 0 < x) → (i ≤ k → x < get_or xs k 0) → (get_or xs k 0 == x) ≡ false
    by k below above = grind (arith, nat_tests)

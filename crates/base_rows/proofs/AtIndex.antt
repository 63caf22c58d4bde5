-- What stands at an index of a list, and what is left after it.
use Rattle.std.proofs.Common.{◌≡◌, ℕ, zero, suc, ◌+◌, ◌<◌, Some, List, [], ◌∷◌, length, drop, ap, ◌∙◌, arith}
use Rattle.std.specs.List.{slice_get}

-- something stands within the list
pub within_at : {A : Type 0} (xs : List A) (i : ℕ) (x : A) → slice_get xs i ≡ Some x → i < length xs
within_at [] i x is = absurd (cc)
within_at (first ∷ rest) zero x is = omega arith
within_at (first ∷ rest) (suc i) x is = let below = within_at rest i x is in omega arith

pub drop_at : {A : Type 0} (xs : List A) (i : ℕ) (x : A) → slice_get xs i ≡ Some x → drop i xs ≡ x ∷ drop (i + 1) xs
drop_at [] i x is = absurd (cc)
drop_at (first ∷ rest) zero x is = let same : first ≡ x = cc in ap (λ a. a ∷ rest) same
drop_at (first ∷ rest) (suc i) x is =
    let more : suc i + 1 ≡ suc (i + 1) = omega arith in
    drop_at rest i x is ∙ ap (λ n. x ∷ drop n (first ∷ rest)) (let less : suc (i + 1) ≡ suc i + 1 = omega arith in less)

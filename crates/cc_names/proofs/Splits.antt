-- Lists that are cut at each element that passes a test.
use Rattle.std.proofs.Common.{◌≡◌, ℕ, ◌+◌, ◌<◌, Bool, true, false, cond, Some, None, List, [], ◌∷◌, ◌++◌, length, take, drop}
use Rattle.std.proofs.Common.{refl, ap, ◌∙◌, subst, arith}
use borrow.Author.Tests.{ltb-true, ltb-false}
use Rattle.std.specs.Prelude.{nat_lt}
use Rattle.std.specs.List.{All, position, position_or_len, slice_split, onto_first}
use Rattle.std.proofs.lemmas.List.Sums.{fails_before_first}
use Rattle.std.proofs.lemmas.List.Splits.{slice_split_none, slice_split_first, slice_split_at, length-slice_split}

pub Some-given : (b : Bool) (n i : ℕ) → cond b (Some n) None ≡ Some i → (b ≡ true) × (n ≡ i)
Some-given true n i h = (refl, cc)
Some-given false n i h = cc

None-given : (b : Bool) (n : ℕ) → cond b (Some n) None ≡ None → b ≡ false
None-given true n h = cc
None-given false n h = refl

-- where the first element that passes stands at a place, the first part ends there
pub slice_split-at : {X : Type 0} (p : X → Bool) (d : X) (xs : List X) (i : ℕ) → position p xs ≡ Some i
    → slice_split p xs ≡ take i xs ∷ slice_split p (drop (i + 1) xs)
slice_split-at p d xs i h =
    let found = Some-given (nat_lt (position_or_len p xs) (length xs)) (position_or_len p xs) i h in
    subst (λ n. slice_split p xs ≡ take n xs ∷ slice_split p (drop (n + 1) xs)) found.1
    (slice_split_first p xs d (ltb-true _ _ found.0))

-- where none passes, the list is the one part
pub slice_split-none : {X : Type 0} (p : X → Bool) (xs : List X) → position p xs ≡ None → slice_split p xs ≡ xs ∷ []
slice_split-none p xs h =
    let long = ltb-false (position_or_len p xs) (length xs) (None-given _ _ h) in
    slice_split_none p xs (λ k d m. fails_before_first p xs k d (omega arith))

-- where none passes, each fails
pub each-fails : {X : Type 0} (p : X → Bool) (xs : List X) → position p xs ≡ None → All (λ x. p x ≡ false) xs
each-fails p xs h k d m =
    let long = ltb-false (position_or_len p xs) (length xs) (None-given _ _ h) in
    fails_before_first p xs k d (omega arith)

split-onto_first : {X : Type 0} (b : Bool) (x : X) (ends : List (List X)) (l : List (List X)) → 0 < length l
    → cond b ([] ∷ (l ++ ends)) (onto_first x (l ++ ends)) ≡ cond b ([] ∷ l) (onto_first x l) ++ ends
split-onto_first true x ends l h = refl
split-onto_first false x ends [] h = absurd (omega arith)
split-onto_first false x ends (part ∷ parts) h = refl

-- the last part begins after the last element that passes
pub slice_split-last : {X : Type 0} (p : X → Bool) (xs : List X) (y : X) (ys : List X) → p y ≡ true → All (λ x. p x ≡ false) ys
    → slice_split p (xs ++ y ∷ ys) ≡ slice_split p xs ++ (ys ∷ [])
slice_split-last p [] y ys passes h = slice_split_at p [] y ys (λ k d m. absurd (omega arith)) passes
    ∙ ap (λ l. [] ∷ l) (slice_split_none p ys h)
slice_split-last p (x ∷ xs) y ys passes h =
    ap (λ l. cond (p x) ([] ∷ l) (onto_first x l)) (slice_split-last p xs y ys passes h)
    ∙ split-onto_first (p x) x (ys ∷ []) (slice_split p xs) (omega (arith, length-slice_split p xs))

-- Elements of lists by their places.
use Rattle.std.proofs.Common.{◌≡◌, ◌≢◌, ◌⊎◌, inl, inr, refl, sym, ap, ◌∙◌, ℕ, zero, suc, ◌<◌, Some, List, []}
use Rattle.std.proofs.Common.{◌∷◌, ◌++◌, length, set, slice_get, length-set, get_or-set_same, get_or-set_other}
use Rattle.std.proofs.lemmas.Option.{slice_get_within, slice_get-get_or, get_or_from_slice_get}

-- ---- after a list

pub get_prefix : {A : Type 0} (xs ys : List A) (k : ℕ) (x : A) → slice_get xs k ≡ Some x → slice_get (xs ++ ys) k ≡ Some x
get_prefix [] ys k x h = absurd (cc)
get_prefix (y ∷ xs) ys zero x h = h
get_prefix (y ∷ xs) ys (suc k) x h = get_prefix xs ys k x h

pub get_push : {A : Type 0} (xs : List A) (x y : A) (k : ℕ) → slice_get (xs ++ x ∷ []) k ≡ Some y → (slice_get xs k ≡ Some y)
    ⊎ ((k ≡ length xs) × (x ≡ y))
get_push [] x y zero h = inr (refl, cc)
get_push [] x y (suc k) h = absurd (cc)
get_push (z ∷ xs) x y zero h = inl h
get_push (z ∷ xs) x y (suc k) h = elim (get_push xs x y k h) [ inl there ↦ inl there | inr here ↦ inr (ap suc here.0, here.1) ]

-- ---- where one element was changed

pub set_same : {A : Type 0} (xs : List A) (n : ℕ) (old new : A) → slice_get xs n ≡ Some old
    → slice_get (set xs n new) n ≡ Some new
set_same xs n old new h =
    let lt : n < length xs = slice_get_within xs n old h in
    let within : n < length (set xs n new) = simp length-set lt in
    slice_get-get_or (set xs n new) n new within ∙ ap Some (get_or-set_same xs n new new lt)

pub set_other : {A : Type 0} (xs : List A) (n k : ℕ) (new x : A) → k ≢ n → slice_get xs k ≡ Some x
    → slice_get (set xs n new) k ≡ Some x
set_other xs n k new x other h =
    let lt : k < length xs = slice_get_within xs k x h in
    let within : k < length (set xs n new) = simp length-set lt in
    slice_get-get_or (set xs n new) k x within ∙ ap Some (get_or-set_other xs n k new x other ∙ get_or_from_slice_get xs k x x h)

pub from_other : {A : Type 0} (xs : List A) (n k : ℕ) (new x : A) → k ≢ n → slice_get (set xs n new) k ≡ Some x
    → slice_get xs k ≡ Some x
from_other xs n k new x other h =
    let lt : k < length (set xs n new) = slice_get_within (set xs n new) k x h in
    let within : k < length xs = simp length-set at lt in
    slice_get-get_or xs k x within ∙ ap Some (sym (get_or-set_other xs n k new x other)
    ∙ get_or_from_slice_get (set xs n new) k x x h)

-- Look-ups and changes of a table by number, in its slots: the number n has slot i, where the first is numbered k.
use Rattle.std.proofs.Common.{◌≡◌, ℕ, zero, suc, ◌+◌, ◌<◌, true, false, not, ◌==◌, Option, Some, None, List, [], ◌∷◌, length}
use Rattle.std.proofs.Common.{IfSome, replicate, refl, ap, ◌∙◌, arith}
use Rattle.std.proofs.Math.ListN.{set}
use Rattle.std.proofs.lemmas.Bool.Decides.{nat_tests}
use Rattle.std.specs.Ordering.{nat_cmp}
use Rattle.std.specs.declared.cmp.Ordering.TheVariants.{Less, Equal, Greater}
use Rattle.std.specs.FinMap.Entries.{put, find, where_key}
use Rattle.build_core.specs.Slots.{numbered_slots, held_in}

less : (n k : ℕ) → n < k → nat_cmp n k ≡ Less
less n k h = grind (arith, nat_tests)

equal : (n k : ℕ) → n ≡ k → nat_cmp n k ≡ Equal
equal n k h = grind (arith, nat_tests)

greater : (n k : ℕ) → k < n → nat_cmp n k ≡ Greater
greater n k h = grind (arith, nat_tests)

same : (n k : ℕ) → n ≡ k → (k == n) ≡ true
same n k h = grind (arith, nat_tests)

apart_above : (n k : ℕ) → k < n → (k == n) ≡ false
apart_above n k h = grind (arith, nat_tests)

apart_below : (n k : ℕ) → n < k → (k == n) ≡ false
apart_below n k h = grind (arith, nat_tests)

-- no number below the first has a slot
pub find_below : {A : Type 0} (n k : ℕ) (slots : List (Option A)) → n < k → find nat_cmp n (numbered_slots k slots) ≡ None
find_below n k [] h = refl
find_below n k (None ∷ slots) h = find_below n (k + 1) slots (omega arith)
find_below n k (Some a ∷ slots) h = rw (less n k h) (find_below n (k + 1) slots (omega arith))

-- what is found at a number is what its slot holds
pub find_numbered : {A : Type 0} (n k i : ℕ) (slots : List (Option A)) → n ≡ k + i
    → find nat_cmp n (numbered_slots k slots) ≡ held_in slots i
find_numbered n k i [] e = refl
find_numbered n k zero (None ∷ slots) e = find_below n (k + 1) slots (omega arith)
find_numbered n k zero (Some a ∷ slots) e = rw (equal n k (omega arith)) refl
find_numbered n k (suc i) (None ∷ slots) e = find_numbered n (k + 1) i slots (omega arith)
find_numbered n k (suc i) (Some a ∷ slots) e = rw (greater n k (omega arith)) (find_numbered n (k + 1) i slots (omega arith))

-- what is put below the first number stands before the others
put_below : {A : Type 0} (n k : ℕ) (a : A) (slots : List (Option A)) → n < k
    → put nat_cmp n a (numbered_slots k slots) ≡ (n, a) ∷ numbered_slots k slots
put_below n k a [] h = refl
put_below n k a (None ∷ slots) h = put_below n (k + 1) a slots (omega arith)
put_below n k a (Some b ∷ slots) h = rw (less n k h) refl

-- what is put at a number fills its slot
pub put_numbered : {A : Type 0} (n k i : ℕ) (a : A) (slots : List (Option A)) → n ≡ k + i → i < length slots →
    put nat_cmp n a (numbered_slots k slots) ≡ numbered_slots k (set slots i (Some a))
put_numbered n k i a [] e h = absurd (omega arith)
put_numbered n k zero a (None ∷ slots) e h =
    let at : n ≡ k = omega arith in
    put_below n (k + 1) a slots (omega arith) ∙ ap (λ first. (first, a) ∷ numbered_slots (k + 1) slots) at
put_numbered n k zero a (Some b ∷ slots) e h = rw (equal n k (omega arith)) refl
put_numbered n k (suc i) a (None ∷ slots) e h = put_numbered n (k + 1) i a slots (omega arith) (omega arith)
put_numbered n k (suc i) a (Some b ∷ slots) e h =
    rw (greater n k (omega arith)) (ap (λ rest. (k, b) ∷ rest) (put_numbered n (k + 1) i a slots (omega arith) (omega arith)))

-- what is taken away below the first number was not there
without_below : {A : Type 0} (n k : ℕ) (slots : List (Option A)) → n < k
    → where_key nat_cmp (λ key. not (key == n)) (numbered_slots k slots) ≡ numbered_slots k slots
without_below n k [] h = refl
without_below n k (None ∷ slots) h = without_below n (k + 1) slots (omega arith)
without_below n k (Some b ∷ slots) h =
    rw (apart_below n k h) (ap (λ rest. (k, b) ∷ rest) (without_below n (k + 1) slots (omega arith)))

-- what is taken away at a number empties its slot, where there is one
pub without_numbered : {A : Type 0} (n k i : ℕ) (slots : List (Option A)) → n ≡ k + i →
    where_key nat_cmp (λ key. not (key == n)) (numbered_slots k slots) ≡ numbered_slots k (set slots i None)
without_numbered n k i [] e = refl
without_numbered n k zero (None ∷ slots) e = without_below n (k + 1) slots (omega arith)
without_numbered n k zero (Some b ∷ slots) e = rw (same n k (omega arith)) (without_below n (k + 1) slots (omega arith))
without_numbered n k (suc i) (None ∷ slots) e = without_numbered n (k + 1) i slots (omega arith)
without_numbered n k (suc i) (Some b ∷ slots) e =
    rw (apart_above n k (omega arith)) (ap (λ rest. (k, b) ∷ rest) (without_numbered n (k + 1) i slots (omega arith)))

-- nothing is held in empty slots
pub none_held : {A : Type 0} (P : ℕ → A → Type 0) (size k : ℕ) → IfSome (held_in (replicate size None) k) (P k)
none_held P zero k = tt
none_held P (suc size) zero = tt
none_held P (suc size) (suc k) = none_held (λ j. P (suc j)) size k

-- what is so of all that is held, once a slot was set
pub set_held : {A : Type 0} (P : ℕ → A → Type 0) (slots : List (Option A)) (n : ℕ) (slot : Option A) →
    ((k : ℕ) → IfSome (held_in slots k) (P k)) → IfSome slot (P n) → (k : ℕ) → IfSome (held_in (set slots n slot) k) (P k)
set_held P [] n slot before new k = before k
set_held P (x ∷ slots) zero slot before new zero = new
set_held P (x ∷ slots) zero slot before new (suc k) = before (suc k)
set_held P (x ∷ slots) (suc n) slot before new zero = before zero
set_held P (x ∷ slots) (suc n) slot before new (suc k) =
    set_held (λ j. P (suc j)) slots n slot (λ j. before (suc j)) new k

-- The states of macros by what is known of those that were touched.
use Rattle.std.proofs.Common.{◌≡◌, ℕ, zero, suc, ◌+◌, ◌<◌, Some, None, Option, List, ◌∷◌, length, replicate, set, refl, sym, ap}
use Rattle.std.proofs.Common.{◌∙◌, unwrap_or, arith, zero-add}
use Rattle.std.proofs.lemmas.Map.Lookups.{exact_unsigned}
use Rattle.std.specs.BTreeMap.{BTreeMap, get, is_at, IsEmpty, Updates}
use Rattle.std.specs.Map.{lookup}
use Rattle.std.specs.Ordering.{nat_cmp, is_eq}
use Rattle.std.specs.declared.cmp.Ordering.{Ordering}
use Rattle.std.specs.declared.cmp.Ordering.TheVariants.{Less, Equal, Greater}
use Rattle.std.specs.Prelude.{false}
use Rattle.make_text.specs.States.{state_at, states_from}
use Rattle.make_text.specs.declared.states.State.{State}
use Rattle.make_text.specs.declared.states.State.TheVariants.{Untouched}

pub length-states : (known : ℕ → Option State) (first count : ℕ) → length (states_from known first count) ≡ count
length-states known first zero = refl
length-states known first (suc count) = ap suc (length-states known (suc first) count)

pub states_at : (known : ℕ → Option State) (first count i : ℕ) → i < count
    → state_at (states_from known first count) i ≡ unwrap_or (known (first + i)) Untouched
states_at known first zero i l = absurd (omega arith)
states_at known first (suc count) zero l = let same : first ≡ first + 0 = omega arith in
    ap (λ n. unwrap_or (known n) Untouched) same
states_at known first (suc count) (suc i) l =
    let same : suc first + i ≡ first + suc i = omega arith in
    let less : i < count = omega arith in
    states_at known (suc first) count i less ∙ ap (λ n. unwrap_or (known n) Untouched) same

-- where nothing is known, no macro was touched
pub none_touched : (known : ℕ → Option State) (first count : ℕ) → ((i : ℕ) → known i ≡ None)
    → states_from known first count ≡ replicate count Untouched
none_touched known first zero none = refl
none_touched known first (suc count) none =
    ap (λ o. unwrap_or o Untouched ∷ states_from known (suc first) count) (none first)
    ∙ ap (λ (l : List State). Untouched ∷ l) (none_touched known (suc first) count none)

-- states that are known alike
same_states : (known other : ℕ → Option State) (first count : ℕ) → ((i : ℕ) → first < suc i → known i ≡ other i)
    → states_from known first count ≡ states_from other first count
same_states known other first zero same = refl
same_states known other first (suc count) same =
    let here : first < suc first = omega arith in
    let more : (i : ℕ) → suc first < suc i → known i ≡ other i = λ i l. let m : first < suc i = omega arith in same i m in
    ap (λ o. unwrap_or o Untouched ∷ states_from known (suc first) count) (same first here)
    ∙ ap (λ (l : List State). unwrap_or (other first) Untouched ∷ l) (same_states known other (suc first) count more)

-- what is known of one macro more, or anew, sets its state
pub one_set : (known new : ℕ → Option State) (state : State) (first count i : ℕ) → i < count → new (first + i) ≡ Some state
    → ((q : ℕ) → (q ≡ first + i → ⊥) → new q ≡ known q) → states_from new first count
    ≡ set (states_from known first count) i state
one_set known new state first zero i l here other = absurd (omega arith)
one_set known new state first (suc count) zero l here other =
    let same : first ≡ first + 0 = omega arith in
    let apart : (i : ℕ) → suc first < suc i → new i ≡ known i = λ i m. other i (λ e. absurd (omega arith)) in
    ap (λ n. unwrap_or (new n) Untouched ∷ states_from new (suc first) count) same
    ∙ ap (λ o. unwrap_or o Untouched ∷ states_from new (suc first) count) here
    ∙ ap (λ (l : List State). state ∷ l) (same_states new known (suc first) count apart)
one_set known new state first (suc count) (suc i) l here other =
    let same : suc first + i ≡ first + suc i = omega arith in
    let less : i < count = omega arith in
    let apart : first ≡ first + suc i → ⊥ = λ e. absurd (omega arith) in
    ap (λ o. unwrap_or o Untouched ∷ states_from new (suc first) count) (other first apart)
    ∙ ap (λ (l : List State). unwrap_or (known first) Untouched ∷ l)
    (one_set known new state (suc first) count i less (ap new same ∙ here) (λ q n. other q (λ e. n (e ∙ sym same))))

-- ---- states that a map has

pub state_known : (known : ℕ → Option State) (count i : ℕ) → i < count
    → state_at (states_from known 0 count) i ≡ unwrap_or (known i) Untouched
state_known known count i l = states_at known 0 count i l ∙ ap (λ n. unwrap_or (known n) Untouched) (zero-add i)

apart_at : (k q : ℕ) → (q ≡ k → ⊥) → is_at (nat_cmp k) q ≡ false
apart_at k q apart = by (nat_cmp k q) refl
  where
    by : (o : Ordering) → nat_cmp k q ≡ o → is_eq o ≡ false
    by Less e = refl
    by Equal e = absurd (apart (sym (exact_unsigned k q e)))
    by Greater e = refl

pub state_put : (old new : BTreeMap ℕ State) (state : State) (count i : ℕ) → i < count → Updates nat_cmp old new i (Some state)
    → states_from (get nat_cmp new) 0 count ≡ set (states_from (get nat_cmp old) 0 count) i state
state_put old new state count i l updates =
    one_set (get nat_cmp old) (get nat_cmp new) state 0 count i l (ap (get nat_cmp new) (zero-add i) ∙ updates.1)
    (λ q apart. updates.2 q (apart_at i q (λ e. apart (e ∙ sym (zero-add i)))))

pub empty_known : (map : BTreeMap ℕ State) → IsEmpty map → (i : ℕ) → get nat_cmp map i ≡ None
empty_known map empty i = ap (lookup (is_at (nat_cmp i))) empty

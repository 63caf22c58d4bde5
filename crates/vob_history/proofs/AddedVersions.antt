-- What a walk adds, one version after the other.
use Rattle.std.proofs.Common.{◌≡◌, refl, ap, ap₂, sym, ◌∙◌, ℕ, ◌+◌, Bool, true, false, cond, not, ◌&&◌, ◌||◌, ◌==◌, Some, List}
use Rattle.std.proofs.Common.{[], ◌∷◌, ◌++◌, length, arith}
use Rattle.std.proofs.lemmas.List.{length-append}
use Rattle.std.proofs.lemmas.List.Folds.{list_any-append}
use Rattle.std.specs.BTreeMap.{is_at}
use Rattle.std.specs.Cmp.{unsigned_tied}
use Rattle.std.specs.List.{list_any}
use Rattle.std.specs.List.Sorted.{IsStrictlySortedBy}
use Rattle.std.specs.Ordering.{nat_cmp}
use Rattle.cc_names.specs.Versions.{is_number}
use Rattle.cc_names.proofs.Common.{eq_swapped, same_number}
use Rattle.legal_history.specs.Queries.Merges.{is_in}
use Rattle.vob_history.specs.Reached.{AddsVersions}
use Rattle.vob_history.specs.declared.reached.Walk.{Walk}

-- ---- by one test and another

pub alike : (p q : ℕ → Bool) (old new : Walk) → ((n : ℕ) → p n ≡ q n) → AddsVersions p old new → AddsVersions q old new
alike p q old new same h = record {
  seen = λ n. h.seen n ∙ ap (λ t. t || is_in n old.seen.keys) (same n);
  left = λ n. h.left n ∙ ap (λ t. is_in n old.left.items || (t && not (is_in n old.seen.keys))) (same n);
  count = h.count;
  ordered = h.ordered;
}

or_none : (t : Bool) → t ≡ (t || false)
or_none true = refl
or_none false = refl

pub none_taken : (walk : Walk) → AddsVersions (λ n. false) walk walk
none_taken walk = record { seen = λ n. refl; left = λ n. or_none (is_in n walk.left.items); count = refl; ordered = λ h. h }

seen_both : (p q seen : Bool) → (q || (p || seen)) ≡ ((p || q) || seen)
seen_both true true seen = refl
seen_both true false seen = refl
seen_both false true seen = refl
seen_both false false seen = refl

left_both : (p q seen left : Bool) → ((left || (p && not seen)) || (q && not (p || seen))) ≡ (left || ((p || q) && not seen))
left_both p q seen true = refl
left_both true true true false = refl
left_both true true false false = refl
left_both true false true false = refl
left_both true false false false = refl
left_both false true seen false = refl
left_both false false seen false = refl

pub both_taken : (p q : ℕ → Bool) (one two three : Walk) → AddsVersions p one two → AddsVersions q two three
    → AddsVersions (λ n. p n || q n) one three
both_taken p q one two three h g = record {
  seen = λ n. g.seen n ∙ ap (λ t. q n || t) (h.seen n) ∙ seen_both (p n) (q n) (is_in n one.seen.keys);
  left = λ n.
      g.left n
      ∙ ap₂ (λ (left seen : Bool). left || (q n && not seen)) (h.left n) (h.seen n)
      ∙ left_both (p n) (q n) (is_in n one.seen.keys) (is_in n one.left.items);
  count = let first = h.count in let second = g.count in omega (arith, first, second);
  ordered = λ before. g.ordered (h.ordered before);
}

-- ---- one version

contains_in : (n : ℕ) (keys : List ℕ) → list_any (is_at (nat_cmp n)) keys ≡ is_in n keys
contains_in n [] = refl
contains_in n (key ∷ keys) = ap₂ (λ (one more : Bool). one || more) (unsigned_tied n key ∙ eq_swapped n key) (contains_in n keys)

cond_or : (t u : Bool) → cond t true u ≡ (t || u)
cond_or true u = refl
cond_or false u = refl

seen_one : (m : ℕ) (old new : List ℕ) → ((n : ℕ) → list_any (is_at (nat_cmp n)) new
    ≡ cond (is_at (nat_cmp m) n) true (list_any (is_at (nat_cmp n)) old)) → (n : ℕ) → is_in n new ≡ ((n == m) || is_in n old)
seen_one m old new put n =
    sym (contains_in n new)
    ∙ put n
    ∙ ap₂ (λ (one more : Bool). cond one true more) (unsigned_tied m n ∙ eq_swapped m n) (contains_in n old)
    ∙ cond_or (n == m) (is_in n old)

-- one that was new is left
pub new_taken : (m : ℕ) (old new : Walk) → ((n : ℕ) → list_any (is_at (nat_cmp n)) new.seen.keys
    ≡ cond (is_at (nat_cmp m) n) true (list_any (is_at (nat_cmp n)) old.seen.keys)) →
    list_any (is_at (nat_cmp m)) old.seen.keys ≡ false → new.left.items ≡ old.left.items ++ m ∷ []
    → length new.seen.keys ≡ length old.seen.keys + 1 → IsStrictlySortedBy nat_cmp new.seen.keys →
    AddsVersions (λ n. is_number n (Some m)) old new
new_taken m old new put was left count ordered = record {
  seen = seen_one m old.seen.keys new.seen.keys put;
  left = λ n. ap (is_in n) left ∙ list_any-append (λ k. k == n) old.left.items (m ∷ [])
      ∙ ap (λ t. is_in n old.left.items || t) (one n (n == m) refl);
  count =
      let more = ap length left ∙ length-append old.left.items (m ∷ []) in
      omega (arith, more, count);
  ordered = λ before. ordered;
}
  where
    one : (n : ℕ) (t : Bool) → (n == m) ≡ t → ((m == n) || false) ≡ ((n == m) && not (is_in n old.seen.keys))
    one n true e =
        let same : n ≡ m = same_number n m e in
        let fresh : is_in n old.seen.keys ≡ false = sym (contains_in n old.seen.keys)
        ∙ ap (λ k. list_any (is_at (nat_cmp k)) old.seen.keys) same ∙ was in
        ap (λ t. t || false) (eq_swapped m n ∙ e) ∙ sym (ap₂ (λ (t u : Bool). t && not u) e fresh)
    one n false e = ap (λ t. t || false) (eq_swapped m n ∙ e) ∙ sym (ap (λ t. t && not (is_in n old.seen.keys)) e)

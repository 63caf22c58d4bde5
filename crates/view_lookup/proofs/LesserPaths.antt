-- The lesser of paths, in any order and each once.
use Rattle.std.proofs.Common.{◌≡◌, refl, ap, sym, ◌∙◌, ℕ, Bool, true, false, cond, Option, Some, None, List}
use Rattle.std.proofs.lemmas.Cmp.{nat_list_cmp_total}
use Rattle.std.specs.Cmp.Lexicographic.{slice_cmp}
use Rattle.std.specs.Ordering.{is_lt, nat_cmp, ordering_reverse}
use Rattle.std.specs.declared.cmp.Ordering.{Ordering}
use Rattle.std.specs.declared.cmp.Ordering.TheVariants.{Less, Equal, Greater}
use Rattle.cc_names.proofs.Common.{texts_tied}
use Rattle.view_lookup.specs.LeastInputs.{lower, lesser}

lower_swap : (one two : List ℕ) → lower one two ≡ lower two one
lower_swap one two = by (slice_cmp nat_cmp one two) refl
  where
    turned : (o : Ordering) → slice_cmp nat_cmp one two ≡ o → slice_cmp nat_cmp two one ≡ ordering_reverse o
    turned o e = nat_list_cmp_total.antisymm two one ∙ ap ordering_reverse e

    by : (o : Ordering) → slice_cmp nat_cmp one two ≡ o → lower one two ≡ lower two one
    by Less e = ap (λ r. cond (is_lt r) two one) (turned Less e) ∙ sym (ap (λ r. cond (is_lt r) one two) e)
    by Equal e = ap (λ r. cond (is_lt r) two one) (turned Equal e) ∙ texts_tied one two e
        ∙ sym (ap (λ r. cond (is_lt r) one two) e)
    by Greater e = ap (λ r. cond (is_lt r) two one) (turned Greater e) ∙ sym (ap (λ r. cond (is_lt r) one two) e)

is_less : (o : Ordering) → is_lt o ≡ true → o ≡ Less
is_less Less h = refl
is_less Equal h = absurd (cc)
is_less Greater h = absurd (cc)

-- what is below what is below is below
below_both : (a b c : List ℕ) → is_lt (slice_cmp nat_cmp c b) ≡ true → is_lt (slice_cmp nat_cmp b a) ≡ true
    → is_lt (slice_cmp nat_cmp c a) ≡ true
below_both a b c low lower_still = ap is_lt (nat_list_cmp_total.trans c b a (is_less _ low) (is_less _ lower_still))

-- what is below a path is below what is not below that path
below_other : (a b c : List ℕ) → is_lt (slice_cmp nat_cmp c a) ≡ true → is_lt (slice_cmp nat_cmp b a) ≡ false
    → is_lt (slice_cmp nat_cmp c b) ≡ true
below_other a b c low high = by (slice_cmp nat_cmp b a) refl
  where
    by : (o : Ordering) → slice_cmp nat_cmp b a ≡ o → is_lt (slice_cmp nat_cmp c b) ≡ true
    by Less e = absurd (cc (ap is_lt e, high))
    by Equal e = ap (λ p. is_lt (slice_cmp nat_cmp c p)) (texts_tied b a e) ∙ low
    by Greater e = ap is_lt (nat_list_cmp_total.trans c a b (is_less _ low) (nat_list_cmp_total.antisymm a b
        ∙ ap ordering_reverse e))

lower_join : (a b c : List ℕ) → lower (lower a b) c ≡ lower a (lower b c)
lower_join a b c = by (is_lt (slice_cmp nat_cmp b a)) (is_lt (slice_cmp nat_cmp c b)) refl refl
  where
    not_below : (t : Bool) → is_lt (slice_cmp nat_cmp c a) ≡ t → is_lt (slice_cmp nat_cmp b a) ≡ false
        → is_lt (slice_cmp nat_cmp c b) ≡ false → t ≡ false
    not_below true e first second = absurd (cc (below_other a b c e first, second))
    not_below false e first second = refl

    by : (x y : Bool) → is_lt (slice_cmp nat_cmp b a) ≡ x → is_lt (slice_cmp nat_cmp c b) ≡ y
        → lower (lower a b) c ≡ lower a (lower b c)
    by true true first second =
        ap (λ t. lower (cond t b a) c) first ∙ ap (λ t. cond t c b) second
        ∙ sym (ap (λ t. lower a (cond t c b)) second ∙ ap (λ t. cond t c a) (below_both a b c second first))
    by true false first second =
        ap (λ t. lower (cond t b a) c) first ∙ ap (λ t. cond t c b) second
        ∙ sym (ap (λ t. lower a (cond t c b)) second ∙ ap (λ t. cond t b a) first)
    by false true first second = ap (λ t. lower (cond t b a) c) first ∙ sym (ap (λ t. lower a (cond t c b)) second)
    by false false first second =
        ap (λ t. lower (cond t b a) c) first ∙ ap (λ t. cond t c a) (not_below (is_lt (slice_cmp nat_cmp c a)) refl first second)
        ∙ sym (ap (λ t. lower a (cond t c b)) second ∙ ap (λ t. cond t b a) first)

lower_twice : (a : List ℕ) → lower a a ≡ a
lower_twice a = by (is_lt (slice_cmp nat_cmp a a))
  where
    by : (t : Bool) → cond t a a ≡ a
    by true = refl
    by false = refl

pub lesser_none : (a : Option (List ℕ)) → lesser a None ≡ a
lesser_none None = refl
lesser_none (Some p) = refl

lesser_turn : (a b : Option (List ℕ)) → lesser a b ≡ lesser b a
lesser_turn None b = sym (lesser_none b)
lesser_turn (Some p) None = refl
lesser_turn (Some p) (Some q) = ap Some (lower_swap p q)

pub lesser_join : (a b c : Option (List ℕ)) → lesser (lesser a b) c ≡ lesser a (lesser b c)
lesser_join None b c = refl
lesser_join (Some p) None c = refl
lesser_join (Some p) (Some q) None = refl
lesser_join (Some p) (Some q) (Some r) = ap Some (lower_join p q r)

pub lesser_swap : (a b c : Option (List ℕ)) → lesser a (lesser b c) ≡ lesser b (lesser a c)
lesser_swap a b c = sym (lesser_join a b c) ∙ ap (λ (x : Option (List ℕ)). lesser x c) (lesser_turn a b) ∙ lesser_join b a c

lesser_same : (a : Option (List ℕ)) → lesser a a ≡ a
lesser_same None = refl
lesser_same (Some p) = ap Some (lower_twice p)

pub lesser_twice : (a b : Option (List ℕ)) → lesser a (lesser a b) ≡ lesser a b
lesser_twice a b = sym (lesser_join a a b) ∙ ap (λ (x : Option (List ℕ)). lesser x b) (lesser_same a)

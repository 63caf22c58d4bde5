-- A walk back from a version comes to all that reach it, and to no other.
use Rattle.std.proofs.Common.{◌≡◌, refl, ap, ap₂, sym, subst, ◌∙◌, ℕ, suc, ◌+◌, ◌-◌, ◌<◌, ◌≤◌, Bool, true, false, not, ◌&&◌}
use Rattle.std.proofs.Common.{◌||◌, ◌==◌, Some, List, [], ◌∷◌, ◌++◌, length, arith}
use Rattle.std.proofs.lemmas.List.{length-append}
use Rattle.std.proofs.lemmas.List.Elements.{All-cons, All-nil}
use Rattle.std.proofs.lemmas.List.Folds.{list_any-append}
use Rattle.std.proofs.lemmas.Map.Views.{length-le_from_below}
use Rattle.std.specs.List.{All}
use Rattle.std.specs.List.Sorted.{IsStrictlySortedBy}
use Rattle.std.specs.Ordering.{nat_cmp}
use Rattle.std.proofs.lemmas.Bool.{or_left, or_right}
use Rattle.cc_names.specs.Versions.{is_number}
use Rattle.cc_names.proofs.Common.{or_first_false, and_first, same_number}
use Rattle.base_model.specs.Fits.{is_base}
use Rattle.base_model.specs.Rows.{Base, size}
use Rattle.legal_history.specs.Laws.BaseLaws.{ReachingIsByAWalkFound, ReachingIsByAWalkWalk}
use Rattle.legal_history.specs.Queries.Merges.{Itself, Onward, Reaches, follows, is_in, reaches}
use Rattle.base_model.proofs.Owned.{same_is_same}
use Rattle.vob_history.specs.Reached.{AddsVersions}
use Rattle.vob_history.specs.declared.reached.Walk.{Walk}
use Rattle.vob_history.proofs.Leaders.{leader_below}

-- What a walk back from a version has come to: the versions that it has seen reach the version, those that they follow it has
-- seen too but for what it still goes on from, and the one that is looked for is none from which it has gone on.
pub record GoesBack (b : Base) (source target : ℕ) (walk : Walk) : Type 0 where
  pub target_seen : is_in target walk.seen.keys ≡ true
  pub reach : (n : ℕ) → is_in n walk.seen.keys ≡ true → Reaches b n target
  pub gone : (c d : ℕ) → is_in d walk.seen.keys ≡ true → is_in d walk.left.items ≡ false → follows b c d ≡ true
      → is_in c walk.seen.keys ≡ true
  pub seen : (n : ℕ) → is_in n walk.left.items ≡ true → is_in n walk.seen.keys ≡ true
  pub source_left : is_in source walk.seen.keys ≡ true → is_in source walk.left.items ≡ true
  pub ordered : IsStrictlySortedBy nat_cmp walk.seen.keys

-- ---- tests

or_cases : (P : Type 0) (a b : Bool) → (a || b) ≡ true → (a ≡ true → P) → (b ≡ true → P) → P
or_cases P true b h one two = one refl
or_cases P false b h one two = two h

and_true : (a b : Bool) → a ≡ true → b ≡ false → (a && not b) ≡ true
and_true true false p q = refl
and_true true true p q = absurd (cc)
and_true false b p q = absurd (cc)

-- ---- the versions that it has seen are rows

all_in : (P : ℕ → Type 0) (keys : List ℕ) → ((n : ℕ) → is_in n keys ≡ true → P n) → All P keys
all_in P [] h = All-nil P
all_in P (key ∷ keys) h = All-cons P key keys (h key (or_left (key == key) (is_in key keys) (same_is_same key)))
    (all_in P keys (λ n is. h n (or_right (key == n) (is_in n keys) is)))

row_or_last : (b : Base) (base : is_base b ≡ true) {n target : ℕ} → Reaches b n target → n < size b + suc target
row_or_last b base Itself = omega arith
row_or_last b base (Onward {a = a} {c = c} f rest) = let low = leader_below b a c base f in omega (arith, low)

few_seen : (b : Base) (source target : ℕ) (walk : Walk) → is_base b ≡ true → GoesBack b source target walk
    → length walk.seen.keys ≤ size b + suc target
few_seen b source target walk base h =
    length-le_from_below (size b + suc target) walk.seen.keys h.ordered
    (all_in (λ n. n < size b + suc target) walk.seen.keys (λ n is. row_or_last b base (h.reach n is)))

-- how many versions it may still go on from
abbrev pub steps_left : Base → ℕ → Walk → ℕ
steps_left b target walk = (size b + suc target + length walk.left.items) - length walk.seen.keys

-- it goes on from one less
fewer_left : (most left old_left new_left seen new_seen : ℕ) → old_left ≡ suc left → seen ≤ most
    → new_left + seen ≡ left + new_seen → (most + new_left) - new_seen < (most + old_left) - seen
fewer_left most left old_left new_left seen new_seen one few count = omega (arith, one, few, count)

-- ---- its begin

pub begun : (b : Base) (source target : ℕ) (empty walk : Walk) → empty.seen.keys ≡ [] → empty.left.items ≡ []
    → IsStrictlySortedBy nat_cmp empty.seen.keys → AddsVersions (λ n. is_number n (Some target)) empty walk
    → GoesBack b source target walk
begun b source target empty walk none_seen none_left ordered h = record {
  target_seen = seen_is target ∙ same_is_same target;
  reach = λ n is. subst (λ m. Reaches b m target) (sym (same_number n target (is_target n is))) Itself;
  gone = λ c d is out f. absurd (cc (sym out ∙ left_is d ∙ is_target d is));
  seen = λ n is. seen_is n ∙ sym (left_is n) ∙ is;
  source_left = λ is. left_is source ∙ is_target source is;
  ordered = h.ordered ordered;
}
  where
    or_none : (t : Bool) → (t || false) ≡ t
    or_none true = refl
    or_none false = refl

    none_new : (t : Bool) → (false || (t && not false)) ≡ t
    none_new true = refl
    none_new false = refl

    seen_is : (n : ℕ) → is_in n walk.seen.keys ≡ (n == target)
    seen_is n = h.seen n ∙ ap (λ keys. (n == target) || is_in n keys) none_seen ∙ or_none (n == target)

    left_is : (n : ℕ) → is_in n walk.left.items ≡ (n == target)
    left_is n = h.left n ∙ ap₂ (λ items keys. is_in n items || ((n == target) && not (is_in n keys))) none_left none_seen
        ∙ none_new (n == target)

    is_target : (n : ℕ) → is_in n walk.seen.keys ≡ true → (n == target) ≡ true
    is_target n is = sym (seen_is n) ∙ is

-- ---- one version from which it goes on

module _ (b : Base) (source target version : ℕ) (old popped : Walk) (h : GoesBack b source target old)
    (kept : popped.seen.keys ≡ old.seen.keys) (last : old.left.items ≡ popped.left.items ++ version ∷ []) where
  left_is : (n : ℕ) → is_in n old.left.items ≡ (is_in n popped.left.items || (version == n))
  left_is n = ap (is_in n) last ∙ list_any-append (λ m. m == n) popped.left.items (version ∷ [])
      ∙ ap (λ t. is_in n popped.left.items || t) (or_none (version == n))
    where
      or_none : (t : Bool) → (t || false) ≡ t
      or_none true = refl
      or_none false = refl

  was_seen : is_in version old.seen.keys ≡ true
  was_seen = h.seen version (left_is version ∙ or_right (is_in version popped.left.items) (version == version)
      (same_is_same version))

  -- the version that is looked for, once it comes to that
  pub found : ReachingIsByAWalkFound → is_base b ≡ true → version ≡ source → true ≡ reaches b source target
  found law base same = sym (law b source target base (subst (λ n. Reaches b n target) same (h.reach version was_seen)))

  module _ (other : version ≡ source → ⊥) (new : Walk) (g : AddsVersions (λ n. follows b n version) popped new) where
    seen_is : (n : ℕ) → is_in n new.seen.keys ≡ (follows b n version || is_in n old.seen.keys)
    seen_is n = g.seen n ∙ ap (λ keys. follows b n version || is_in n keys) kept

    stays_seen : (n : ℕ) → is_in n old.seen.keys ≡ true → is_in n new.seen.keys ≡ true
    stays_seen n is = seen_is n ∙ or_right (follows b n version) (is_in n old.seen.keys) is

    new_is : (n : ℕ) → is_in n new.left.items ≡ (is_in n popped.left.items
        || (follows b n version && not (is_in n old.seen.keys)))
    new_is n = g.left n ∙ ap (λ keys. is_in n popped.left.items || (follows b n version && not (is_in n keys))) kept

    stays_left : (n : ℕ) → is_in n popped.left.items ≡ true → is_in n new.left.items ≡ true
    stays_left n is = new_is n ∙ or_left (is_in n popped.left.items) (follows b n version && not (is_in n old.seen.keys)) is

    goes_left : (n : ℕ) → follows b n version ≡ true → is_in n old.seen.keys ≡ false → is_in n new.left.items ≡ true
    goes_left n f was = new_is n ∙ or_right (is_in n popped.left.items) (follows b n version && not (is_in n old.seen.keys))
        (and_true (follows b n version) (is_in n old.seen.keys) f was)

    still_reach : (n : ℕ) → is_in n new.seen.keys ≡ true → Reaches b n target
    still_reach n is = or_cases (Reaches b n target) (follows b n version) (is_in n old.seen.keys) (sym (seen_is n)
        ∙ is) (λ f. Onward f (h.reach version was_seen)) (h.reach n)

    gone_on : (c d : ℕ) → is_in d new.seen.keys ≡ true → is_in d new.left.items ≡ false → follows b c d ≡ true
        → is_in c new.seen.keys ≡ true
    gone_on c d is out f = by (is_in d old.seen.keys) (version == d) refl refl
      where
        not_left : is_in d popped.left.items ≡ false
        not_left = or_first_false (is_in d popped.left.items) (follows b d version && not (is_in d old.seen.keys)) (sym (new_is d)
            ∙ out)

        by : (t s : Bool) → is_in d old.seen.keys ≡ t → (version == d) ≡ s → is_in c new.seen.keys ≡ true
        by true true was here =
            let same : d ≡ version = sym (same_number version d here) in
            seen_is c ∙ or_left (follows b c version) (is_in c old.seen.keys) (subst (λ m. follows b c m ≡ true) same f)
        by true false was here = stays_seen c (h.gone c d was (left_is d ∙ ap₂ (λ (x y : Bool). x || y) not_left here) f)
        by false s was here =
            let follows_it : follows b d version ≡ true = or_cases (follows b d version ≡ true) (follows b d version)
            (is_in d old.seen.keys) (sym (seen_is d) ∙ is) (λ f. f) (λ seen. absurd (cc (sym was ∙ seen))) in
            absurd (cc (sym out ∙ goes_left d follows_it was))

    left_seen : (n : ℕ) → is_in n new.left.items ≡ true → is_in n new.seen.keys ≡ true
    left_seen n is = or_cases (is_in n new.seen.keys ≡ true) (is_in n popped.left.items)
        (follows b n version && not (is_in n old.seen.keys)) (sym (new_is n) ∙ is)
        (λ before. stays_seen n (h.seen n (left_is n ∙ or_left (is_in n popped.left.items) (version == n) before)))
        (λ fresh. seen_is n ∙ or_left (follows b n version) (is_in n old.seen.keys)
        (and_first (follows b n version) (not (is_in n old.seen.keys)) fresh))

    still_left : is_in source new.seen.keys ≡ true → is_in source new.left.items ≡ true
    still_left is = by (is_in source old.seen.keys) refl
      where
        by : (t : Bool) → is_in source old.seen.keys ≡ t → is_in source new.left.items ≡ true
        by true was =
            or_cases (is_in source new.left.items ≡ true) (is_in source popped.left.items) (version == source)
            (sym (left_is source) ∙ h.source_left was) (stays_left source)
            (λ same. absurd (other (same_number version source same)))
        by false was =
            let follows_it : follows b source version ≡ true =
            or_cases (follows b source version ≡ true) (follows b source version) (is_in source old.seen.keys)
            (sym (seen_is source) ∙ is) (λ f. f) (λ seen. absurd (cc (sym was ∙ seen))) in
            goes_left source follows_it was

    pub gone_back : GoesBack b source target new
    gone_back = record {
      target_seen = stays_seen target h.target_seen;
      reach = still_reach;
      gone = gone_on;
      seen = left_seen;
      source_left = still_left;
      ordered = g.ordered (subst (IsStrictlySortedBy nat_cmp) (sym kept) h.ordered);
    }

    pub one_less : is_base b ≡ true → steps_left b target new < steps_left b target old
    one_less base =
        fewer_left (size b + suc target) (length popped.left.items) (length old.left.items) (length new.left.items)
        (length old.seen.keys) (length new.seen.keys)
        (let more = ap length last ∙ length-append popped.left.items (version ∷ []) in omega (arith, more))
        (few_seen b source target old base h)
        (ap (λ keys. length new.left.items + length keys) (sym kept) ∙ g.count)

-- ---- its end

came_to : (b : Base) (seen : List ℕ) → ((c d : ℕ) → is_in d seen ≡ true → follows b c d ≡ true → is_in c seen ≡ true) → {a d : ℕ}
    → Reaches b a d → is_in d seen ≡ true → is_in a seen ≡ true
came_to b seen closed Itself h = h
came_to b seen closed (Onward {a = a} {c = c} f rest) h = closed a c (came_to b seen closed rest h) f

-- where nothing is left to go on from, and it has not come to the version that is looked for
pub not_found : ReachingIsByAWalkWalk → (b : Base) (source target : ℕ) (walk : Walk) → GoesBack b source target walk
    → walk.left.items ≡ [] → false ≡ reaches b source target
not_found law b source target walk h none = by (reaches b source target) refl
  where
    by : (t : Bool) → reaches b source target ≡ t → false ≡ t
    by false is = refl
    by true is =
        let seen : is_in source walk.seen.keys ≡ true = came_to b walk.seen.keys
        (λ c d there f. h.gone c d there (ap (is_in d) none) f) (law b source target is) h.target_seen in
        sym (ap (is_in source) none) ∙ h.source_left seen

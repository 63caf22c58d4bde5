-- Numbers of what makes a path, and lists of paths that are distinct.
use Rattle.std.proofs.Common.{◌≡◌, refl, sym, ap, ◌∙◌, subst, ℕ, zero, suc, ◌+◌, Bool, true, false, ◌||◌, Option}
use Rattle.std.proofs.Common.{Some, List, [], ◌∷◌, ◌++◌, slice_get, flat_map, arith}
use Rattle.std.proofs.lemmas.Slice.Eq.{bytes_eq-Decides}
use Rattle.std.specs.List.{AllByRecursion, IsDistinct}
use Rattle.std.specs.Str.{bytes_eq}
use Rattle.make_grammar.specs.Macros.{is_among}
use Rattle.make_grammar.specs.Numbers.{number_from}

-- ---- among lists that follow each other

pub among_prefix : (path : List ℕ) (ps qs : List (List ℕ)) → is_among ps path ≡ true → is_among (ps ++ qs) path ≡ true
among_prefix path [] qs h = absurd (cc)
among_prefix path (p ∷ ps) qs h = by (bytes_eq path p) h (among_prefix path ps qs)
  where
    by : (t : Bool) → (t || is_among ps path) ≡ true → (is_among ps path ≡ true → is_among (ps ++ qs) path ≡ true)
        → (t || is_among (ps ++ qs) path) ≡ true
    by true h more = refl
    by false h more = more h

pub among_behind : (path : List ℕ) (ps qs : List (List ℕ)) → is_among qs path ≡ true → is_among (ps ++ qs) path ≡ true
among_behind path [] qs h = h
among_behind path (p ∷ ps) qs h = by (bytes_eq path p) (among_behind path ps qs h)
  where
    by : (t : Bool) → is_among (ps ++ qs) path ≡ true → (t || is_among (ps ++ qs) path) ≡ true
    by true h = refl
    by false h = h

-- ---- distinct paths

-- the tail of distinct paths, and what differs from a path
pub distinct_rest : (p : List ℕ) (ps : List (List ℕ)) → IsDistinct bytes_eq (p ∷ ps) → IsDistinct bytes_eq ps
unfolding IsDistinct
distinct_rest p ps h = h.1

pub none_among : (p path : List ℕ) (ps : List (List ℕ)) → AllByRecursion (λ q. bytes_eq p q ≡ false) ps → is_among ps path ≡ true
    → bytes_eq p path ≡ false
none_among p path [] h among = absurd (cc)
none_among p path (q ∷ ps) h among = by (bytes_eq path q) refl among (none_among p path ps h.1)
  where
    by : (t : Bool) → bytes_eq path q ≡ t → (t || is_among ps path) ≡ true → (is_among ps path ≡ true → bytes_eq p path ≡ false)
        → bytes_eq p path ≡ false
    by true same among more = subst (λ (r : List ℕ). bytes_eq p r ≡ false) (sym ((bytes_eq-Decides path q).0 same)) h.0
    by false differs among more = more among

pub not_twice : (path : List ℕ) (ps qs : List (List ℕ)) → IsDistinct bytes_eq (ps ++ qs) → is_among ps path ≡ true
    → is_among qs path ≡ true → ⊥
unfolding IsDistinct
not_twice path [] qs h first second = cc
not_twice path (p ∷ ps) qs h first second = by (bytes_eq path p) refl first (not_twice path ps qs h.1)
  where
    by : (t : Bool) → bytes_eq path p ≡ t → (t || is_among ps path) ≡ true
        → (is_among ps path ≡ true → is_among qs path ≡ true → ⊥) → ⊥
    by true same first more =
        let differs = none_among p path (ps ++ qs) h.0 (among_behind path ps qs second) in
        let is_p = (bytes_eq-Decides path p).0 same in
        let itself = (bytes_eq-Decides p path).1 (sym is_p) in
        cc
    by false differs first more = more first second

pub distinct_behind : (ps qs : List (List ℕ)) → IsDistinct bytes_eq (ps ++ qs) → IsDistinct bytes_eq qs
distinct_behind [] qs h = h
distinct_behind (p ∷ ps) qs h = distinct_behind ps qs (distinct_rest p (ps ++ qs) h)

-- ---- numbers

-- what has the number has the path
pub record IsNumbered {A : Type 0} (targets : A → List (List ℕ)) (n : ℕ) (path : List ℕ) (xs : List A) (m : ℕ) : Type 0 where
  pub place : ℕ
  pub is : m ≡ n + place
  pub item : A
  pub at : slice_get xs place ≡ Some item
  pub has : is_among (targets item) path ≡ true

pub numbered : {A : Type 0} (targets : A → List (List ℕ)) (n : ℕ) (path : List ℕ) (xs : List A) (m : ℕ)
    → number_from targets n path xs ≡ Some m → IsNumbered targets n path xs m
numbered targets n path [] m h = absurd (cc)
numbered {A} targets n path (x ∷ xs) m h = by (is_among (targets x) path) refl h (numbered targets (n + 1) path xs m)
  where
    by : (t : Bool) → is_among (targets x) path ≡ t → elim t as (λ b. Option ℕ) [
      | true ↦ Some n
      | false ↦
          number_from targets (n + 1) path xs
    ] ≡ Some m →
        (number_from targets (n + 1) path xs ≡ Some m → IsNumbered targets (n + 1) path xs m)
        → IsNumbered targets n path (x ∷ xs) m
    by true is h more = let same : n ≡ m = cc in record { place = 0; is = omega (arith, same); item = x; at = refl; has = is }
    by false is h more =
        let rest = more h in
        record { place = suc rest.place; is = omega (arith, rest.is); item = rest.item; at = rest.at; has = rest.has }

-- what an item has is among all that they have
pub among_items : {A : Type 0} (targets : A → List (List ℕ)) (path : List ℕ) (xs : List A) (k : ℕ) (x : A)
    → slice_get xs k ≡ Some x → is_among (targets x) path ≡ true → is_among (flat_map targets xs) path ≡ true
among_items targets path [] k x at has = absurd (cc)
among_items targets path (y ∷ ys) zero x at has =
    let same : y ≡ x = cc in
    among_prefix path (targets y) (flat_map targets ys) (ap (λ z. is_among (targets z) path) same ∙ has)
among_items targets path (y ∷ ys) (suc k) x at has = among_behind path (targets y) (flat_map targets ys)
    (among_items targets path ys k x at has)

-- among distinct targets, the item that has the path has its number
pub number_is : {A : Type 0} (targets : A → List (List ℕ)) (n : ℕ) (path : List ℕ) (xs : List A) (k : ℕ) (x : A) →
    IsDistinct bytes_eq (flat_map targets xs) → slice_get xs k ≡ Some x → is_among (targets x) path ≡ true
    → number_from targets n path xs ≡ Some (n + k)
number_is targets n path [] k x distinct at has = absurd (cc)
number_is targets n path (y ∷ ys) zero x distinct at has =
    let same : y ≡ x = cc in
    let here = ap (λ z. is_among (targets z) path) same ∙ has in
    rw (here, number_from) (ap Some (omega arith))
number_is {A} targets n path (y ∷ ys) (suc k) x distinct at has = by (is_among (targets y) path) refl
    (number_is targets (n + 1) path ys k x (distinct_behind (targets y) (flat_map targets ys) distinct) at has)
  where
    by : (t : Bool) → is_among (targets y) path ≡ t → number_from targets (n + 1) path ys ≡ Some (n + 1 + k) →
        elim t as (λ b. Option ℕ) [ true ↦ Some n | false ↦ number_from targets (n + 1) path ys ] ≡ Some (n + suc k)
    by true is rest = absurd (not_twice path (targets y) (flat_map targets ys) distinct is
        (among_items targets path ys k x at has))
    by false is rest = rest ∙ ap Some (omega arith)

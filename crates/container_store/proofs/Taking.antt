-- Extents that are taken one after the other: their order does not matter.
use Rattle.std.proofs.Common.{◌≡◌, ℕ, suc, ◌+◌, ◌<◌, Bool, true, false, leb, List, [], ◌∷◌, ◌++◌, length, get_or, take, drop}
use Rattle.std.proofs.Common.{refl, sym, ap, ◌∙◌, subst, arith, drop-cons}
use Rattle.std.specs.Prelude.{◌&&◌, ◌||◌, not}
use Rattle.std.specs.List.{list_all, list_any}
use Rattle.std.specs.List.Sorted.{IsPermutation}
use Rattle.std.proofs.lemmas.List.{take_more}
use Rattle.std.proofs.lemmas.List.Sorted.{IsPermutation-cons, IsPermutation-push_more, list_any-IsPermutation}
use Rattle.cc_names.specs.declared.rows.Extent.{Extent}
use Rattle.container_store.specs.Extents.{place_behind, are_apart, is_free, may_take}

none_fails : (b all any : Bool) → all ≡ not any → (b && all) ≡ not (not b || any)
none_fails true all any is = is
none_fails false all any is = refl

all_is_none : {X : Type 0} (p : X → Bool) (xs : List X) → list_all p xs ≡ not (list_any (λ x. not (p x)) xs)
all_is_none p [] = refl
all_is_none p (x ∷ xs) = none_fails (p x) (list_all p xs) (list_any (λ y. not (p y)) xs) (all_is_none p xs)

-- what is free
pub is_free_moved : (xs ys : List Extent) (e : Extent) → IsPermutation xs ys → is_free xs e ≡ is_free ys e
is_free_moved xs ys e moved =
    let none : list_any (λ x. not (are_apart e x)) xs ≡ list_any (λ x. not (are_apart e x)) ys =
    list_any-IsPermutation (λ x. not (are_apart e x)) xs ys moved in
    all_is_none (are_apart e) xs ∙ ap not none ∙ sym (all_is_none (are_apart e) ys)

-- what may be taken
pub may_take_moved : (size : ℕ) (more xs ys : List Extent) → IsPermutation xs ys → may_take size xs more ≡ may_take size ys more
may_take_moved size [] xs ys moved = refl
may_take_moved size (e ∷ more) xs ys moved =
    let free = is_free_moved xs ys e moved in
    let rest = may_take_moved size more (e ∷ xs) (e ∷ ys) (IsPermutation-cons e xs ys moved) in
    ap (λ (b : Bool). leb (place_behind e) size && (b && may_take size (e ∷ xs) more)) free
    ∙ ap (λ (b : Bool). leb (place_behind e) size && (is_free ys e && b)) rest

passed : (a b c : Bool) → (a && b) ≡ true → (a && (b && c)) ≡ c
passed true true c h = refl
passed true false c h = cc
passed false b c h = cc

failed : (a b c : Bool) → (a && b) ≡ false → (a && (b && c)) ≡ false
failed true true c h = cc
failed true false c h = refl
failed false b c h = refl

module _ (size : ℕ) (all taken : List Extent) (i : ℕ) (e : Extent) (within : i < length all) (is : e ≡ get_or all i e) where
  next_is : drop i all ≡ e ∷ drop (suc i) all
  next_is = drop-cons all i e within ∙ ap (λ (x : Extent). x ∷ drop (suc i) all) (sym is)

  -- the next one is taken
  pub taken_more : (leb (place_behind e) size && is_free taken e) ≡ true → (after : List Extent) → IsPermutation (e ∷ taken) after
      → may_take size taken (drop i all) ≡ may_take size after (drop (i + 1) all)
  taken_more passes after moved =
      let next : suc i ≡ i + 1 = omega arith in
      ap (may_take size taken) next_is
      ∙ passed (leb (place_behind e) size) (is_free taken e) (may_take size (e ∷ taken) (drop (suc i) all)) passes
      ∙ may_take_moved size (drop (suc i) all) (e ∷ taken) after moved
      ∙ ap (λ (n : ℕ). may_take size after (drop n all)) next

  pub order_more : (after : List Extent) → IsPermutation (take i all) taken → IsPermutation (e ∷ taken) after
      → IsPermutation (take (i + 1) all) after
  order_more after before moved =
      subst (λ xs. IsPermutation xs after) (sym (take_more all i e within ∙ ap (λ (x : Extent). take i all ++ x ∷ []) (sym is)))
      (IsPermutation-push_more (take i all) taken after e before moved)

  -- it is not
  pub refused : (leb (place_behind e) size && is_free taken e) ≡ false → may_take size taken (drop i all) ≡ false
  refused fails = ap (may_take size taken) next_is ∙ failed (leb (place_behind e) size) (is_free taken e)
      (may_take size (e ∷ taken) (drop (suc i) all)) fails

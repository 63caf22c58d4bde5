-- Extents in order, parted at an index: what lies before it and after it, and which extents fit there.
use Rattle.std.proofs.Common.{◌≡◌, ℕ, suc, ◌+◌, ◌-◌, ◌<◌, ◌≤◌, max, Bool, true, false, eqb, ltb, List, [], ◌∷◌, ◌++◌, length}
use Rattle.std.proofs.Common.{get_or, take, drop, sym, ap, ◌∙◌, subst, inl, inr, arith, drop-cons, get_or-take, get_or-drop}
use Rattle.std.proofs.Common.{length-take, length-drop}
use Rattle.std.specs.Prelude.{All, Contains, ◌&&◌}
use Rattle.std.specs.List.Sorted.{IsNonDecreasingBy, IsPartitionPoint}
use Rattle.std.proofs.lemmas.Bool.{cases_lt, ltb-true, ltb-false, eqb-true, eq-eqb, and_parts, and_from, false_from_ne_true}
use Rattle.std.proofs.lemmas.List.{take-append-drop, drop_all, take_more, get_or_default}
use Rattle.cc_names.specs.declared.rows.Extent.{Extent}
use Rattle.container_store.specs.Extents.{place_behind, is_free, end_of, extent_at}
use Rattle.container_store.specs.Places.{IsInPlace, last_behind, hole_before, FitsAt}
use Rattle.container_store.proofs.InOrder.{last_behind-append, prefix_in_place, back_in_place, end_of-append, last_at_most}
use Rattle.container_store.proofs.InOrder.{end_holds, places_rise, is_free-append, free_behind, free_before, behind_if_free}
use Rattle.container_store.proofs.InOrder.{before_if_free}

-- places do not fall
pub never_fall : (xs : List Extent) → IsInPlace 0 xs → IsNonDecreasingBy (λ (e : Extent). e.place) xs
never_fall xs h i j d le within = elim (cases_lt i j) [
  | inl lt ↦ omega (arith, places_rise 0 xs h i j d lt within)
  | inr ge ↦
      let same : i ≡ j = omega arith in
      subst (λ (k : ℕ). (get_or xs i d).place ≤ (get_or xs k d).place) same (omega arith)
]

module _ (xs : List Extent) (at : ℕ) where
  parts : take at xs ++ drop at xs ≡ xs
  parts = take-append-drop at xs

  pub prefix_of : IsInPlace 0 xs → IsInPlace 0 (take at xs)
  prefix_of h = prefix_in_place 0 (take at xs) (drop at xs) (subst (IsInPlace 0) (sym parts) h)

  pub back_of : IsInPlace 0 xs → IsInPlace (last_behind 0 (take at xs)) (drop at xs)
  back_of h = back_in_place 0 (take at xs) (drop at xs) (subst (IsInPlace 0) (sym parts) h)

  pub end_is : end_of xs ≡ max (end_of (take at xs)) (end_of (drop at xs))
  end_is = ap end_of (sym parts) ∙ end_of-append (take at xs) (drop at xs)

  pub last_within : last_behind 0 (take at xs) ≤ end_of xs
  last_within = omega (arith, last_at_most 0 (take at xs), end_is)

  pub free_is : (e : Extent) → is_free xs e ≡ (is_free (take at xs) e && is_free (drop at xs) e)
  free_is e = ap (λ (ys : List Extent). is_free ys e) (sym parts) ∙ is_free-append (take at xs) (drop at xs) e

  -- the extent at the index, read with any default
  pub itself : (d : Extent) → at < length xs → get_or xs at d ≡ get_or xs at (get_or xs at d)
  itself d within = get_or_default xs at d (get_or xs at d) within

  pub rest_is : (e : Extent) → at < length xs → e ≡ get_or xs at e → drop at xs ≡ e ∷ drop (suc at) xs
  rest_is e within is = drop-cons xs at e within ∙ ap (λ (x : Extent). x ∷ drop (suc at) xs) (sym is)

  pub rest_of : (e : Extent) → at < length xs → e ≡ get_or xs at e → IsInPlace 0 xs
      → IsInPlace (last_behind 0 (take at xs)) (e ∷ drop (suc at) xs)
  rest_of e within is h = subst (IsInPlace (last_behind 0 (take at xs))) (rest_is e within is) (back_of h)

  pub end_within : (e : Extent) → at < length xs → e ≡ get_or xs at e → e.place + e.length ≤ end_of xs
  end_within e within is = subst (λ (x : Extent). x.place + x.length ≤ end_of xs) (sym is) (end_holds xs at e within)

  pub prefix_more : (e : Extent) → at < length xs → e ≡ get_or xs at e → take (at + 1) xs ≡ take at xs ++ e ∷ []
  prefix_more e within is = take_more xs at e within ∙ ap (λ (x : Extent). take at xs ++ x ∷ []) (sym is)

  pub last_more : (e : Extent) → at < length xs → e ≡ get_or xs at e → e.place + e.length ≡ last_behind 0 (take (at + 1) xs)
  last_more e within is = sym (ap (last_behind 0) (prefix_more e within is) ∙ last_behind-append 0 (take at xs) (e ∷ []))

  -- the hole before it
  pub hole_is : (e : Extent) → at < length xs → e ≡ get_or xs at e → hole_before (last_behind 0 (take at xs)) (drop at xs)
      ≡ e.place - last_behind 0 (take at xs)
  hole_is e within is = ap (hole_before (last_behind 0 (take at xs))) (rest_is e within is)

  pub no_hole : length xs ≤ at → hole_before (last_behind 0 (take at xs)) (drop at xs) ≡ 0
  no_hole past = ap (hole_before (last_behind 0 (take at xs))) (drop_all at xs past)

  -- an extent that fits there is free
  pub fits_free : (e : Extent) → IsInPlace 0 xs → FitsAt xs at e → is_free xs e ≡ true
  fits_free e h fits =
      let prefix = free_behind 0 (take at xs) e (prefix_of h) fits.prefix in
      let back = free_before (place_behind e) (drop at xs) e (omega arith) fits.back in
      free_is e ∙ and_from (is_free (take at xs) e) (is_free (drop at xs) e) prefix back

  -- it fits after the last extent, and before another
  pub fits_last : (e : Extent) → at ≤ length xs → length xs ≤ at → last_behind 0 (take at xs) ≤ e.place → FitsAt xs at e
  fits_last e within past prefix = record {
    within = within;
    prefix = prefix;
    back = subst (IsInPlace (place_behind e)) (sym (drop_all at xs past)) tt;
  }

  pub fits_before : (e next : Extent) → at < length xs → next ≡ get_or xs at next → IsInPlace 0 xs
      → last_behind 0 (take at xs) ≤ e.place → place_behind e ≤ next.place → FitsAt xs at e
  fits_before e next within is h prefix before =
      let rest = rest_of next within is h in
      record {
        within = omega arith;
        prefix = prefix;
        back = subst (IsInPlace (place_behind e)) (sym (rest_is next within is)) (before, rest.1, rest.2);
      }

-- where the search by place ended
module _ (xs : List Extent) (at : ℕ) (e : Extent) (h : IsInPlace 0 xs)
    (parted : IsPartitionPoint (λ (x : Extent). ltb x.place e.place ≡ true) (λ (x : Extent). ltb x.place e.place ≡ false) xs at)
  where
    prefix_below : All (λ (x : Extent). x.place < e.place) (take at xs)
    prefix_below k d within =
        let lt : k < at = omega (arith, length-take at xs) in
        let below : ltb (get_or xs k d).place e.place ≡ true = parted.0 k d (omega arith) lt in
        subst (λ (x : Extent). x.place < e.place) (sym (get_or-take at xs k d lt)) (ltb-true (get_or xs k d).place e.place below)

    back_above : All (λ (x : Extent). e.place ≤ x.place) (drop at xs)
    back_above k d within =
        let in_range : at + k < length xs = omega (arith, length-drop at xs) in
        let above : ltb (get_or xs (at + k) d).place e.place ≡ false = parted.1 (at + k) d (omega arith) in_range in
        subst (λ (x : Extent). e.place ≤ x.place) (sym (get_or-drop at xs k d))
        (ltb-false (get_or xs (at + k) d).place e.place above)

    -- one that is free fits there
    free_fits : 0 < e.length → is_free xs e ≡ true → (last_behind 0 (take at xs) ≤ e.place)
        × IsInPlace (place_behind e) (drop at xs)
    free_fits some free =
        let each = and_parts (is_free (take at xs) e) (is_free (drop at xs) e) (sym (free_is xs at e) ∙ free) in (
          behind_if_free 0 (take at xs) e some (omega arith) prefix_below each.0,
          before_if_free (last_behind 0 (take at xs)) (drop at xs) e (back_of xs at h) back_above each.1,
        )

    -- so one that does not fit is not free
    pub blocked_prefix : 0 < e.length → e.place < last_behind 0 (take at xs) → is_free xs e ≡ false
    blocked_prefix some lower = false_from_ne_true (is_free xs e) (λ free. let fits = free_fits some free in
        omega (arith, fits.0))

    pub blocked_back : (next : Extent) → at < length xs → next ≡ get_or xs at next → 0 < e.length → next.place < place_behind e
        → is_free xs e ≡ false
    blocked_back next within is some lower = false_from_ne_true (is_free xs e) (λ free.
        let fits = free_fits some free in
        let back : IsInPlace (place_behind e) (next ∷ drop (suc at) xs) =
        subst (IsInPlace (place_behind e)) (rest_is xs at next within is) fits.1 in
        omega (arith, back.0))

    -- one that is taken is found there
    pub found_at : Contains xs e → (at < length xs) × (e ≡ get_or xs at e)
    found_at taken =
        let k = taken.0 in
        let same : (get_or xs k e).place ≡ e.place = ap (λ (x : Extent). x.place) taken.2 in
        elim (cases_lt k at) [
          | inl lt ↦
              let lower : (get_or xs k e).place < e.place = ltb-true (get_or xs k e).place e.place (parted.0 k e (omega arith) lt)
              in
              absurd (omega arith)
          | inr ge ↦ elim (cases_lt at k) [
            | inl lt ↦
                let in_range : at < length xs = omega (arith, taken.1) in
                let higher : e.place ≤ (get_or xs at e).place = ltb-false (get_or xs at e).place e.place
                (parted.1 at e (omega arith) in_range) in
                let rises = places_rise 0 xs h at k e lt taken.1 in
                absurd (omega (arith, rises))
            | inr le ↦
                let here : k ≡ at = omega arith in
                (omega (arith, taken.1), sym (subst (λ (j : ℕ). get_or xs j e ≡ e) here taken.2))
          ]
        ]

-- the same, where the search was over the extents as a slice
pub found_in : (slice xs : List Extent) (at : ℕ) (e : Extent) → slice ≡ xs → IsInPlace 0 xs
    → IsPartitionPoint (λ (x : Extent). ltb x.place e.place ≡ true) (λ (x : Extent). ltb x.place e.place ≡ false) slice at
    → Contains xs e → (at < length xs) × (e ≡ get_or xs at e)
found_in slice xs at e is h parted taken =
    found_at xs at e h
    (subst (λ (ys : List Extent). IsPartitionPoint (λ (x : Extent). ltb x.place e.place ≡ true)
    (λ (x : Extent). ltb x.place e.place ≡ false) ys at) is parted) taken

-- the extent found there is this one exactly where this one is taken
pub taken_as_found : (slice xs : List Extent) (at : ℕ) (e found : Extent) (b : Bool) → slice ≡ xs → IsInPlace 0 xs
    → IsPartitionPoint (λ (x : Extent). ltb x.place e.place ≡ true) (λ (x : Extent). ltb x.place e.place ≡ false) slice at
    → at < length xs → found ≡ get_or xs at found → b ≡ (eqb found.place e.place && eqb found.length e.length)
    → (b ≡ true → Contains xs e) × (Contains xs e → b ≡ true)
taken_as_found slice xs at e found b is h parted within here is_equal = (
  λ (equal : b ≡ true).
      let parts = and_parts (eqb found.place e.place) (eqb found.length e.length) (sym is_equal ∙ equal) in
      let same : found ≡ e =
      ap (λ (p : ℕ). extent_at p found.length) (eqb-true found.place e.place parts.0)
      ∙ ap (λ (n : ℕ). extent_at e.place n) (eqb-true found.length e.length parts.1) in
      (at, within, sym (get_or_default xs at found e within) ∙ sym here ∙ same),
  λ (taken : Contains xs e).
      let there = found_in slice xs at e is h parted taken in
      let same : found ≡ e = here ∙ get_or_default xs at found e within ∙ sym there.1 in
      is_equal
      ∙ and_from (eqb found.place e.place) (eqb found.length e.length)
      (eq-eqb found.place e.place (ap (λ (x : Extent). x.place) same))
      (eq-eqb found.length e.length (ap (λ (x : Extent). x.length) same)),
)

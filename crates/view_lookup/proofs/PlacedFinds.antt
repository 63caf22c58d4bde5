-- A search by halving in places that are in the order of their elements finds the one of an element.
use Rattle.std.proofs.Common.{◌≡◌, ℕ, ◌<◌, ◌≤◌, ◌==◌, Bool, true, false, cond, ◌||◌, List, [], ◌∷◌, length, get_or, map, Some, None}
use Rattle.std.proofs.Common.{nat_lt, refl, inl, inr, ap, ◌∙◌, arith}
use Rattle.std.specs.Prelude.{find, is_some}
use Rattle.std.specs.List.{list_any}
use Rattle.std.specs.List.Sorted.{IsNonDecreasingBy, IsPartitionPoint, IsStrictlySortedBy}
use Rattle.std.specs.Ordering.{nat_cmp}
use Rattle.std.proofs.lemmas.Bool.{cases_lt}
use Rattle.std.proofs.lemmas.Bool.Decides.{nat_tests}
use Rattle.std.proofs.lemmas.List.{get_or-map, get_or_default, length-map}
use Rattle.std.proofs.lemmas.Map.Keys.{below_from_sorted, non_decreasing_from_sorted}
use Rattle.cc_names.proofs.ByRows.{find_first, find_nothing}
use Rattle.cc_names.specs.Formed.{element_of}
use Rattle.cc_names.specs.declared.rows.Placed.{Placed}
use Rattle.base_rows.specs.Histories.{is_placed_on}

module _ (placed : List Placed) (sorted : IsStrictlySortedBy nat_cmp (map element_of placed)) where
  element_at : (k : ℕ) (d : Placed) → k < length placed → get_or (map element_of placed) k 0 ≡ element_of (get_or placed k d)
  element_at k d within = get_or-map element_of placed k d 0 within

  -- the elements do not fall
  pub elements_rise : IsNonDecreasingBy element_of placed
  elements_rise i j d before within = rw (
    ← element_at i d (omega (arith, before, within)),
    ← element_at j d within,
  ) (non_decreasing_from_sorted (map element_of placed) sorted i j 0 before (omega (arith, length-map placed element_of, within)))

  elements_apart : (i j : ℕ) (d : Placed) → i < j → j < length placed
      → element_of (get_or placed i d) < element_of (get_or placed j d)
  elements_apart i j d before within = rw (← element_at i d (omega (arith, before, within)), ← element_at j d within)
      (below_from_sorted (map element_of placed) i j 0 sorted before (omega (arith, length-map placed element_of, within)))

  module _ (e i : ℕ) (parted : IsPartitionPoint (λ one. nat_lt (element_of one) e ≡ true)
      (λ one. nat_lt (element_of one) e ≡ false) placed i) where
    -- the one where the search ended is of the element
    pub find_here : (d : Placed) → i < length placed → element_of (get_or placed i d) ≡ e
        → find (is_placed_on e) placed ≡ Some (get_or placed i d)
    find_here d within same = find_first (is_placed_on e) placed i d within
        (λ k f before. grind (arith, nat_tests, parted.0 k f (omega arith) before)) (grind (arith, nat_tests, same))

    -- it is of another one
    pub find_another : (d : Placed) → i < length placed → (element_of (get_or placed i d) == e) ≡ false
        → find (is_placed_on e) placed ≡ None
    find_another d within differs = find_nothing (is_placed_on e) placed fails
      where
        fails : (k : ℕ) (f : Placed) → k < length placed → is_placed_on e (get_or placed k f) ≡ false
        fails k f in_range = elim (cases_lt k i) [
          | inl before ↦ grind (arith, nat_tests, parted.0 k f (omega arith) before)
          | inr behind ↦ elim (cases_lt i k) [
            | inl after ↦ grind (
              arith,
              nat_tests,
              parted.1 i f (omega arith) within,
              elements_apart i k f after in_range,
            )
            | inr here ↦
                let same : k ≡ i = omega arith in
                let there : get_or placed k f ≡ get_or placed i d = ap (λ j. get_or placed j f) same
                ∙ get_or_default placed i f d within in
                rw there differs
          ]
        ]

    -- all elements lie before it
    pub find_none : length placed ≤ i → find (is_placed_on e) placed ≡ None
    find_none past = find_nothing (is_placed_on e) placed (λ k f within. grind (
      arith,
      nat_tests,
      parted.0 k f (omega arith) (omega arith),
    ))

-- one is found where there is one
pub found_any : (p : Placed → Bool) (placed : List Placed) → is_some (find p placed) ≡ list_any p placed
found_any p [] = refl
found_any p (one ∷ more) = by (found_any p more) (p one)
  where
    by : is_some (find p more) ≡ list_any p more → (is : Bool) → is_some (cond is (Some one) (find p more)) ≡ (is || list_any p more)
    by rest true = refl
    by rest false = rest

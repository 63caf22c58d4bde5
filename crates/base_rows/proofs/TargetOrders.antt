-- A search among ordered places finds just the targets, and the places stay as rows are added.
use Rattle.std.proofs.Common.{◌≡◌, refl, ap, ap₂, sym, subst, ◌∙◌, ℕ, zero, suc, ◌+◌, ◌<◌, ◌≤◌, Bool, true, false, ◌||◌, ◌==◌, cond, nat_lt}
use Rattle.std.proofs.Common.{Option, Some, None, List, [], ◌∷◌, ◌++◌, length, take, get_or, Err, IfSome, arith}
use Rattle.std.proofs.lemmas.Bool.Decides.{nat_tests, Decides-eqb}
use Rattle.std.proofs.lemmas.List.Folds.{list_any-append, list_any_more}
use Rattle.std.proofs.lemmas.List.{get_or_default}
use Rattle.std.proofs.lemmas.List.Sorted.{searchable_from_sorted}
use Rattle.std.proofs.lemmas.Option.{slice_get_read}
use Rattle.std.proofs.lemmas.Map.Text.{is_eq-slice_cmp}
use Rattle.std.specs.Prelude.{is_some}
use Rattle.std.specs.Cmp.Lexicographic.{nat_list_cmp_total, slice_cmp}
use Rattle.std.specs.List.{list_any, slice_get}
use Rattle.std.specs.List.Sorted.{IsBinarySearchResult}
use Rattle.std.specs.Ordering.{is_eq, nat_cmp}
use Rattle.std.specs.Str.{bytes_eq}
use Rattle.std.specs.declared.cmp.Ordering.{Ordering}
use Rattle.std.specs.declared.cmp.Ordering.TheVariants.{Less, Equal, Greater}
use Rattle.cc_names.specs.Formed.{Plain}
use Rattle.cc_names.proofs.Common.{bytes_eq_swapped, bytes_equal_themselves, or_false, or_true, texts_tied}
use Rattle.base_model.specs.Changes.{targets_of, targets_of_deed}
use Rattle.base_model.specs.Closures.{is_path_among}
use Rattle.base_model.specs.Rows.{Base, deed_of, row_at, size}
use Rattle.base_rows.specs.Made.{is_target}
use Rattle.base_rows.specs.TargetOrders.{AreOfDeed, AreOfObject, AreOrdered, AreOrders, IsPlaceOf, Places, target_at, with_order}

-- one place more, that of the next target
pub one_more : (targets : List (List ℕ)) (places : List ℕ) (place : ℕ) (path : List ℕ) → place < length targets
    → list_any (λ i. bytes_eq path (target_at targets i)) places ≡ is_path_among path (take place targets)
    → list_any (λ i. bytes_eq path (target_at targets i)) (places ++ place ∷ []) ≡ is_path_among path (take (place + 1) targets)
one_more targets places place path within before =
    list_any-append (λ i. bytes_eq path (target_at targets i)) places (place ∷ [])
    ∙ ap₂ (λ one two. one || two) before (or_false (bytes_eq path (target_at targets place)))
    ∙ sym (list_any_more (bytes_eq path) targets place [] within)

-- the target at a place is the path just where the search says so
is_there : (target path : List ℕ) (order : Ordering) → slice_cmp nat_cmp target path ≡ order → bytes_eq path target ≡ is_eq order
is_there target path order is = bytes_eq_swapped path target ∙ sym (is_eq-slice_cmp target path) ∙ ap is_eq is

none_there : (targets : List (List ℕ)) (places : List ℕ) (path : List ℕ)
    → ((k : ℕ) (d : ℕ) → k < length places → bytes_eq path (target_at targets (get_or places k d)) ≡ false)
    → list_any (λ i. bytes_eq path (target_at targets i)) places ≡ false
none_there targets [] path apart = refl
none_there targets (place ∷ places) path apart =
    ap₂ (λ here rest. here || rest) (apart 0 place (omega arith))
    (none_there targets places path (λ k d within. apart (suc k) d (omega (arith, within))))

-- a search among places in byte order that finds a place finds the path there
pub found_there : (targets : List (List ℕ)) (places : List ℕ) (path : List ℕ) (i d : ℕ) → AreOrdered targets places
    → i < length places → slice_cmp nat_cmp (target_at targets (get_or places i d)) path ≡ Equal
    → slice_get targets (get_or places i d) ≡ Some path
found_there targets places path i d ordered within found =
    let place = get_or places i d in
    let low : place < length targets = ordered.within i d within in
    slice_get_read targets (length targets) place path refl low
    (sym (texts_tied (target_at targets place) path found) ∙ get_or_default targets place [] path low)

-- one that finds none shows that the path is no target
pub found_nowhere : (targets : List (List ℕ)) (places : List ℕ) (path : List ℕ) (i : ℕ) → AreOrdered targets places
    → i ≤ length places → IsBinarySearchResult (λ place. slice_cmp nat_cmp (target_at targets place) path) places (Err i)
    → is_path_among path targets ≡ false
found_nowhere targets places path i ordered within found =
    let parted = found (searchable_from_sorted nat_list_cmp_total (target_at targets) places path ordered.ascend) in
    sym (ordered.all path)
    ∙ none_there targets places path (λ k d there. by k d (nat_lt k i) refl there (parted.0 k d (omega arith)) (parted.1 k d))
  where
    by : (k d : ℕ) (before : Bool) → nat_lt k i ≡ before → k < length places
        → (k < i → slice_cmp nat_cmp (target_at targets (get_or places k d)) path ≡ Less)
        → (i ≤ k → k < length places → slice_cmp nat_cmp (target_at targets (get_or places k d)) path ≡ Greater)
        → bytes_eq path (target_at targets (get_or places k d)) ≡ false
    by k d true is there less greater = is_there (target_at targets (get_or places k d)) path Less
        (less (grind (arith, nat_tests)))
    by k d false is there less greater = is_there (target_at targets (get_or places k d)) path Greater
        (greater (grind (arith, nat_tests)) there)

-- a path has a place just where it is a target
pub has_place : (path : List ℕ) (targets : List (List ℕ)) (place : Option ℕ) → IsPlaceOf path targets place
    → is_some place ≡ is_path_among path targets
has_place path targets None nowhere = sym nowhere
has_place path targets (Some place) there = sym (among_at targets place there)
  where
    among_at : (targets : List (List ℕ)) (place : ℕ) → slice_get targets place ≡ Some path → is_path_among path targets ≡ true
    among_at [] place there = absurd (cc)
    among_at (target ∷ targets) zero there =
        let same : target ≡ path = cc in
        ap (λ here. here || is_path_among path targets)
        (subst (λ one. bytes_eq path one ≡ true) (sym same) (bytes_equal_themselves path))
    among_at (target ∷ targets) (suc place) there = ap (λ rest. bytes_eq path target || rest) (among_at targets place there)
        ∙ or_true (bytes_eq path target)

-- the two ways to ask whether a path is a target
pub among_targets : (path : List ℕ) (targets : List (List ℕ)) → is_path_among path targets ≡ is_target path targets
among_targets path [] = refl
among_targets path (target ∷ targets) =
    ap₂ (λ here rest. here || rest) (bytes_eq_swapped path target) (among_targets path targets)

-- the targets of an older object
older_targets : (row : Plain) (older : Base) (id : ℕ) → (size older == id) ≡ false
    → targets_of (row ∷ older) id ≡ targets_of older id
older_targets row older id apart = ap (λ is. targets_of_deed (deed_of (elim is as (λ x. Option Plain) [
  | true ↦ Some row
  | false ↦ row_at older id
]))) apart

-- those of the newest row
newest_targets : (row : Plain) (older : Base) (id : ℕ) → (size older == id) ≡ true
    → targets_of (row ∷ older) id ≡ targets_of_deed (Some row.deed)
newest_targets row older id same = ap (λ is. targets_of_deed (deed_of (elim is as (λ x. Option Plain) [
  | true ↦ Some row
  | false ↦ row_at older id
]))) same

of_older : (row : Plain) (older : Base) (id : ℕ) (places : List ℕ) → AreOfObject older id places
    → AreOfObject (row ∷ older) id places
of_older row older id places before =
    let low = before.within in
    let apart : (size older == id) ≡ false = grind (arith, nat_tests) in
    record {
      within = omega arith;
      ordered = subst (λ targets. AreOrdered targets places) (sym (older_targets row older id apart)) before.ordered;
    }

-- With the places of a new row's targets, each object of the longer base has its own.
pub orders_more : (kept : ℕ → Option Places) (made : Option Places) (row : Plain) (older : Base) → AreOrders kept older
    → AreOfDeed made row.deed → AreOrders (with_order (size older) made kept) (row ∷ older)
orders_more kept made row older before own id = by made own (size older == id) refl
  where
    older_one : (found : Option Places) → IfSome found (λ places. AreOfObject older id places.items)
        → IfSome found (λ places. AreOfObject (row ∷ older) id places.items)
    older_one None has = has
    older_one (Some places) has = of_older row older id places.items has

    by : (made : Option Places) → AreOfDeed made row.deed → (is : Bool) → (size older == id) ≡ is
        → IfSome (with_order (size older) made kept id) (λ places. AreOfObject (row ∷ older) id places.items)
    by None own is same = older_one (kept id) (before id)
    by (Some places) own true same =
        let number : size older ≡ id = (Decides-eqb (size older) id).0 same in
        subst (λ is. IfSome (elim is as (λ x. Option Places) [ true ↦ Some places | false ↦ kept id ])
        (λ places. AreOfObject (row ∷ older) id places.items)) (sym same) (record {
          within = omega arith;
          ordered = subst (λ targets. AreOrdered targets places.items) (sym (newest_targets row older id same)) own;
        })
    by (Some places) own false apart =
        subst (λ is. IfSome (elim is as (λ x. Option Places) [ true ↦ Some places | false ↦ kept id ])
        (λ places. AreOfObject (row ∷ older) id places.items)) (sym apart) (older_one (kept id) (before id))

-- as a map keeps them
pub kept_with : (object : ℕ) (places : Places) (before : ℕ → Option Places) (q : ℕ)
    → cond (object == q) (Some places) (before q) ≡ with_order object (Some places) before q
kept_with object places before q = by (object == q)
  where
    by : (is : Bool) → cond is (Some places) (before q)
        ≡ elim is as (λ x. Option Places) [ true ↦ Some places | false ↦ before q ]
    by true = refl
    by false = refl

-- The versions that the record of an object lists have the form of a row's places of a label.
use Rattle.std.proofs.Common.{◌≡◌, refl, ap, sym, ◌∙◌, ℕ, suc, ◌+◌, ◌<◌, ◌≤◌, ◌^◌, Bool, true, false, cond, ◌==◌, Option}
use Rattle.std.proofs.Common.{Some, None, [], ◌∷◌, length, map, arith}
use Rattle.std.proofs.lemmas.Bool.Decides.{nat_tests}
use Rattle.std.proofs.lemmas.Cmp.{nat_cmp_total, ranked}
use Rattle.std.specs.Cmp.{tied_itself, unsigned_tied}
use Rattle.std.specs.FinMap.Entries.{below_all, find, is_sorted}
use Rattle.std.specs.List.{AllByRecursion}
use Rattle.std.specs.List.Sorted.{IsStrictlySortedBy}
use Rattle.std.specs.Ordering.{is_eq, is_lt, nat_cmp}
use Rattle.std.specs.Prelude.{T, is_some, option_and_then}
use Rattle.std.specs.declared.cmp.Ordering.TheVariants.{Less}
use Rattle.cc_names.specs.Formed.{IsListOf, IsPlaced, element_of}
use Rattle.cc_names.specs.Versions.{change_at, kind_by}
use Rattle.cc_names.specs.declared.changes.TreeChange.{TreeChange}
use Rattle.cc_names.proofs.Common.{test_first, test_second, less_by_test}
use Rattle.base_model.specs.Changes.{tree}
use Rattle.base_model.specs.Closures.{Listing, closure, is_version_of, listing, as_placed, placed_by}
use Rattle.base_model.specs.Fits.{is_base}
use Rattle.base_model.specs.Rows.{Base, size}
use Rattle.base_model.proofs.Below.{within}
use Rattle.base_model.proofs.LabelsHold.{all_listed}
use Rattle.base_model.proofs.Listings.{in_order}
use Rattle.base_model.proofs.Owned.{version_has_kind}
use Rattle.base_model.proofs.VersionRows.{version_below}

-- a number that comes before another is below it
lower : (x y : ℕ) → T (is_lt (nat_cmp x y)) → x < y
lower x y h = ranked x y Less (sym (less_by_test (nat_cmp x y) h))

-- what is found among entries after a number is above it
found_above : (x e r : ℕ) (entries : Listing) → T (below_all nat_cmp x entries) → find nat_cmp e entries ≡ Some r → x < e
found_above x e r [] low found = absurd (cc)
found_above x e r (entry ∷ entries) low found = by (e == entry.0) refl
    (ap (λ t. cond t (Some entry.1) (find nat_cmp e entries)) (sym (unsigned_tied e entry.0))
    ∙ found) (found_above x e r entries (test_second _ _ low))
  where
    by : (t : Bool) → (e == entry.0) ≡ t → cond t (Some entry.1) (find nat_cmp e entries) ≡ Some r
        → (find nat_cmp e entries ≡ Some r → x < e) → x < e
    by true here is rest = let above = lower x entry.0 (test_first _ _ low) in grind (arith, nat_tests)
    by false apart is rest = rest is

-- what holds of all that is found in a listing holds of each of its entries
each_found : (P : ℕ → ℕ → Type 0) (entries : Listing) → T (is_sorted nat_cmp entries)
    → ((e r : ℕ) → find nat_cmp e entries ≡ Some r → P e r) → AllByRecursion (λ entry. P entry.0 entry.1) entries
each_found P [] sorted h = tt
each_found P (entry ∷ entries) sorted h = (
  h entry.0 entry.1 (ap (λ o. cond (is_eq o) (Some entry.1) (find nat_cmp entry.0 entries)) (tied_itself nat_cmp_total entry.0)),
  each_found P entries (test_second _ _ sorted) (λ e r found. h e r (behind e r found)),
)
  where
    behind : (e r : ℕ) → find nat_cmp e entries ≡ Some r → find nat_cmp e (entry ∷ entries) ≡ Some r
    behind e r found =
        let above = found_above entry.0 e r entries (test_first _ _ sorted) found in
        let apart : (e == entry.0) ≡ false = grind (arith, nat_tests) in
        ap (λ t. cond t (Some entry.1) (find nat_cmp e entries)) (unsigned_tied e entry.0 ∙ apart) ∙ found

element_low : (b : Base) (e r : ℕ) → is_base b ≡ true → is_version_of b e r ≡ true → e < size b
element_low b e r base is = by (change_at (tree b) e) refl (version_has_kind b e r base is)
  where
    by : (o : Option TreeChange) → change_at (tree b) e ≡ o → is_some (option_and_then kind_by o) ≡ true → e < size b
    by None found kind = absurd (cc)
    by (Some change) found kind = (within b).numbers e change found

-- an element and a version below a number
abbrev AreLow : ℕ → ℕ × ℕ → Type 0
AreLow n entry = (entry.0 < n) × (entry.1 < n)

listed_low : (b : Base) (id : ℕ) → is_base b ≡ true → AllByRecursion (AreLow (size b)) (listing b id)
listed_low b id base =
    each_found (λ e r. (e < size b) × (r < size b)) (listing b id) (in_order b (closure b id))
    (λ e r found. let is = (all_listed b (closure b id)).lists e r found in (element_low b e r base is, version_below b e r is))

one_more : (k e n m : ℕ) → k ≤ e → suc e + m ≤ n → k + suc m ≤ n
one_more k e n m least rest = omega arith

-- entries whose elements ascend between two numbers are no more than lie there
short : (k n : ℕ) (entries : Listing) → k ≤ n → T (is_sorted nat_cmp entries) → AllByRecursion (λ entry. k ≤ entry.0) entries
    → AllByRecursion (AreLow n) entries → k + length entries ≤ n
short k n [] within sorted above low = omega arith
short k n (entry ∷ entries) within sorted above low =
    let most : entry.0 < n = low.0.0 in
    one_more k entry.0 n (length entries) above.0 (short (suc entry.0) n entries (omega arith) (test_second _ _ sorted)
    (all_above entries (test_first _ _ sorted)) low.1)
  where
    all_above : (others : Listing) → T (below_all nat_cmp entry.0 others) → AllByRecursion (λ other. suc entry.0 ≤ other.0) others
    all_above [] h = tt
    all_above (other ∷ others) h = let first = lower entry.0 other.0 (test_first _ _ h) in
        (omega arith, all_above others (test_second _ _ h))

none_below : (entries : Listing) → AllByRecursion (λ entry. 0 ≤ entry.0) entries
none_below [] = tt
none_below (entry ∷ entries) = (omega arith, none_below entries)

same_length : (entries : Listing) → length (map as_placed entries) ≡ length entries
same_length [] = refl
same_length (entry ∷ entries) = ap suc (same_length entries)

places_long : (n : ℕ) (entries : Listing) → n ≤ 2 ^ 64 → AllByRecursion (AreLow n) entries
    → AllByRecursion IsPlaced (map as_placed entries)
places_long n [] high low = tt
places_long n (entry ∷ entries) high low = let element = low.0.0 in let version = low.0.1 in
    ((omega arith, omega arith), places_long n entries high low.1)

places_behind : (e : ℕ) (entries : Listing) → T (below_all nat_cmp e entries)
    → AllByRecursion (λ other. nat_cmp e other ≡ Less) (map element_of (map as_placed entries))
places_behind e [] h = tt
places_behind e (entry ∷ entries) h = (
  less_by_test (nat_cmp e entry.0) (test_first _ _ h),
  places_behind e entries (test_second _ _ h),
)

places_ascend : (entries : Listing) → T (is_sorted nat_cmp entries) → IsStrictlySortedBy nat_cmp
    (map element_of (map as_placed entries))
unfolding IsStrictlySortedBy
places_ascend [] h = tt
places_ascend (entry ∷ entries) h = (places_behind entry.0 entries (test_first _ _ h), places_ascend entries (test_second _ _ h))

-- what is placed by an object has the form of a row's list
pub placed_formed : (b : Base) (id : ℕ) → is_base b ≡ true → size b ≤ 4000000 → IsListOf IsPlaced (placed_by b id)
    × IsStrictlySortedBy nat_cmp (map element_of (placed_by b id))
placed_formed b id base limit =
    let entries = listing b id in
    let sorted = in_order b (closure b id) in
    let low = listed_low b id base in
    let most = short 0 (size b) entries (omega arith) sorted (none_below entries) low in
    let same = same_length entries in
    ((omega arith, places_long (size b) entries (omega arith) low), places_ascend entries sorted)

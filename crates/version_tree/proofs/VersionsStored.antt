-- What is found among the versions that a branch keeps.
use Rattle.std.proofs.Common.{◌≡◌, ℕ, zero, suc, ◌+◌, ◌<◌, ◌≤◌, Bool, true, false, cond, eqb, ltb, List, [], ◌∷◌, ◌++◌, length}
use Rattle.std.proofs.Common.{take, map, reverse, Option, Some, None, ◌⊎◌, slice_get, refl, inl, inr, sym, ap, ◌∙◌, arith}
use Rattle.std.specs.Prelude.{filter, find, option_map}
use Rattle.std.specs.List.Sorted.{IsPartitionPoint}
use Rattle.std.specs.Option.{option_or, option_map_or}
use Rattle.std.proofs.lemmas.List.{reverse-reverse, reverse-append, length-reverse}
use Rattle.std.proofs.lemmas.Bool.{cases_eq}
use Rattle.std.proofs.lemmas.Bool.Decides.{nat_tests}
use Rattle.cc_names.specs.Versions.{Version, row_of_version, number_of_version, is_before}
use Rattle.cc_names.specs.Falling.{IsAbove, Falls}
use Rattle.version_tree.specs.Branches.{row_of_later, versions_from, stored_of_first_rows, row_if, row_numbered, row_within}
use Rattle.version_tree.specs.declared.branches.Branch.{Branch}
use Rattle.cc_names.proofs.ByRows.{filter-reverse, filter_first, find-reverse}
use Rattle.cc_names.proofs.Common.{slice_get_last}
use Rattle.version_tree.specs.declared.branches.Later.{Later}

-- a branch has one version more than versions after version 0
pub length-versions_from : (b moment : ℕ) (ls : List Later) → length (versions_from b moment ls) ≡ suc (length ls)
length-versions_from b moment [] = refl
length-versions_from b moment (l ∷ older) = ap suc (length-versions_from b moment older)

pub slice_get_others : {X : Type 0} (xs : List X) (x : X) (k : ℕ) → (k ≡ length xs → ⊥)
    → slice_get (xs ++ x ∷ []) k ≡ slice_get xs k
slice_get_others [] x zero other = absurd (other refl)
slice_get_others [] x (suc k) other = refl
slice_get_others (y ∷ xs) x zero other = refl
slice_get_others (y ∷ xs) x (suc k) other = slice_get_others xs x k (λ e. other (ap suc e))

pub eqb_cases : (a b : ℕ) → (eqb a b ≡ true) ⊎ (eqb a b ≡ false)
eqb_cases a b = elim (eqb a b) as (λ t. (t ≡ true) ⊎ (t ≡ false)) [ true ↦ inl refl | false ↦ inr refl ]

-- a row above a list is above what stands at a place of it, counted from its other end
above_found : (row : ℕ) (ls : List Later) (k : ℕ) (l : Later) → IsAbove row (map row_of_later ls)
    → slice_get (reverse ls) k ≡ Some l → l.row < row
above_found row [] k l above found = cc
above_found row (newest ∷ older) k l above found =
    let apart : slice_get (reverse older ++ newest ∷ []) k ≡ Some l = rw (reverse-append (newest ∷ []) older) at found in
    elim (cases_eq k (length (reverse older))) [
      | inl here ↦
          let last : Some newest ≡ Some l = sym (slice_get_last (reverse older) newest) ∙ (rw here at apart) in
          omega (arith, above.0, ap (λ o. option_map_or row_of_later o 0) last)
      | inr elsewhere ↦ above_found row older k l above.1 (sym (slice_get_others (reverse older) newest k elsewhere) ∙ apart)
    ]

-- the newest of a list with one more version at its head, by the tests of that version
latest_more : (v : Version) (vs : List Version) (l : Later) (ls : List Later) (before : Option ℕ) (within early : Bool)
    (first : Option ℕ)
    → v.row ≡ l.row → v.moment ≡ l.moment → is_before before l.moment ≡ early
    → option_map row_of_version (find (λ w. is_before before w.moment) vs)
    ≡ option_or (option_map row_of_later (find (λ k. is_before before k.moment) ls)) first
    → option_map row_of_version (find (λ w. is_before before w.moment) (cond within (v ∷ vs) vs))
    ≡ option_or (option_map row_of_later (find (λ k. is_before before k.moment) (cond within (l ∷ ls) ls))) first
latest_more v vs l ls before true true first same when e rest = rw (when, e) (ap Some same)
latest_more v vs l ls before true false first same when e rest = rw (when, e) rest
latest_more v vs l ls before false early first same when e rest = rest

-- the newest of version 0 alone
latest_first : (v : Version) (before : Option ℕ) (within early : Bool) → is_before before v.moment ≡ early
    → option_map row_of_version (find (λ w. is_before before w.moment) (cond within (v ∷ []) [])) ≡ row_if within early v.row
latest_first v before true true e = rw e refl
latest_first v before true false e = rw e refl
latest_first v before false early e = refl

-- the newest that is before a moment stands after version 0, or is version 0
pub latest_stored : (b moment : ℕ) (ls : List Later) (before : Option ℕ) (rows : ℕ)
    → option_map row_of_version (find (λ v. is_before before v.moment) (filter (λ v. ltb v.row rows) (versions_from b moment ls)))
    ≡ option_or (option_map row_of_later (find (λ l. is_before before l.moment) (filter (λ l. ltb l.row rows) ls)))
    (row_if (ltb b rows) (is_before before moment) b)
latest_stored b moment [] before rows =
    latest_first (record { row = b; moment = moment; branch = b; number = 0 }) before (ltb b rows) (is_before before moment) refl
latest_stored b moment (l ∷ older) before rows =
    latest_more (record { row = l.row; moment = l.moment; branch = b; number = length (versions_from b moment older) }) _ l _
    before (ltb l.row rows) (is_before before l.moment) _ refl refl refl (latest_stored b moment older before rows)

-- what a search among the first rows ends at, and a walk back from there finds
pub latest_search : (branch : Branch) (before : Option ℕ) (rows count : ℕ) → count ≤ length branch.later.items
    → IsPartitionPoint (λ l. ltb (row_of_later l) rows ≡ true) (λ l. ltb (row_of_later l) rows ≡ false) branch.later.items count
    → option_map row_of_version (find (λ v. is_before before v.moment) (stored_of_first_rows rows branch))
    ≡ option_or (option_map row_of_later (find (λ l. is_before before l.moment) (reverse (take count branch.later.items))))
    (row_if (ltb branch.row rows) (is_before before branch.moment) branch.row)
latest_search branch before rows count within parted =
    let p : Later → Bool = λ l. ltb (row_of_later l) rows in
    let prefix : filter p (reverse branch.later.items) ≡ reverse (take count branch.later.items) =
    filter-reverse p branch.later.items ∙ ap reverse (filter_first p branch.later.items count within parted) in
    latest_stored branch.row branch.moment (reverse branch.later.items) before rows
    ∙ ap (λ ls. option_or (option_map row_of_later (find (λ l. is_before before l.moment) ls))
    (row_if (ltb branch.row rows) (is_before before branch.moment) branch.row)) prefix

-- an item that fails a test is passed over, kept or not
find_over : {X : Type 0} (p : X → Bool) (x : X) (xs : List X) (within : Bool) → p x ≡ false
    → find p (cond within (x ∷ xs) xs) ≡ find p xs
find_over p x xs true fails = rw fails refl
find_over p x xs false fails = refl

-- version 0 of a branch
abbrev first_of : ℕ → ℕ → Version
first_of b moment = record { row = b; moment = moment; branch = b; number = 0 }

-- the newest version of a branch with these after version 0
abbrev newest_of : ℕ → ℕ → Later → List Later → Version
newest_of b moment l older = record { row = l.row; moment = l.moment; branch = b; number = length (versions_from b moment older) }

-- numbers that the branch has not come to are not found
numbers_end : (b moment : ℕ) (ls : List Later) (rows n : ℕ) → length ls < n
    → find (λ v. eqb v.number n) (filter (λ v. ltb v.row rows) (versions_from b moment ls)) ≡ None
numbers_end b moment [] rows n past = find_over (λ v. eqb v.number n) (first_of b moment) [] (ltb b rows)
    (grind (arith, nat_tests))
numbers_end b moment (l ∷ older) rows n past =
    find_over (λ v. eqb v.number n) (newest_of b moment l older) _ (ltb l.row rows)
    (rw (length-versions_from b moment older) (grind (arith, nat_tests)))
    ∙ numbers_end b moment older rows n (omega arith)

-- the newest version, where it has the number, found or not by its row
number_newest : (v : Version) (vs : List Version) (n : ℕ) (within : Bool) → eqb v.number n ≡ true
    → find (λ w. eqb w.number n) vs ≡ None
    → option_map row_of_version (find (λ w. eqb w.number n) (cond within (v ∷ vs) vs)) ≡ cond within (Some v.row) None
number_newest v vs n true same none = rw same refl
number_newest v vs n false same none = rw none refl

-- the version with a number on a branch is version 0, or the one at its place after it
pub numbered_stored : (b moment : ℕ) (ls : List Later) (rows n : ℕ)
    → option_map row_of_version (find (λ v. eqb v.number n) (filter (λ v. ltb v.row rows) (versions_from b moment ls)))
    ≡ row_within rows (row_numbered b (reverse ls) n)
numbered_stored b moment [] rows zero = number_newest (first_of b moment) [] 0 (ltb b rows) refl refl
numbered_stored b moment [] rows (suc k) = ap (option_map row_of_version)
    (find_over (λ v. eqb v.number (suc k)) (first_of b moment) [] (ltb b rows) (grind (arith, nat_tests)))
numbered_stored b moment (l ∷ older) rows zero =
    ap (option_map row_of_version) (find_over (λ v. eqb v.number 0) (newest_of b moment l older) _ (ltb l.row rows)
    (rw (length-versions_from b moment older) (grind (arith, nat_tests))))
    ∙ numbered_stored b moment older rows 0
numbered_stored b moment (l ∷ older) rows (suc k) = rw (reverse-append (l ∷ []) older) (elim (cases_eq k (length older)) [
  | inl same ↦
      let here : slice_get (reverse older ++ l ∷ []) k ≡ Some l = rw (
        same,
        ← length-reverse older,
      ) (slice_get_last (reverse older) l) in
      rw here (number_newest (newest_of b moment l older) _ (suc k) (ltb l.row rows)
      (rw (length-versions_from b moment older) (grind (arith, nat_tests)))
      (numbers_end b moment older rows (suc k) (omega arith)))
  | inr differs ↦
      let there : slice_get (reverse older ++ l ∷ []) k ≡ slice_get (reverse older) k =
      slice_get_others (reverse older) l k (λ e. differs (e ∙ length-reverse older)) in
      rw there (ap (option_map row_of_version) (find_over (λ v. eqb v.number (suc k)) (newest_of b moment l older) _
      (ltb l.row rows) (rw (length-versions_from b moment older) (grind (arith, nat_tests))))
      ∙ numbered_stored b moment older rows (suc k))
])

-- no version after version 0 has the row
pub number_first : (b moment : ℕ) (ls : List Later) (row : ℕ) → find (λ l. eqb l.row row) ls ≡ None
    → option_map number_of_version (find (λ v. eqb v.row row) (versions_from b moment ls)) ≡ cond (eqb b row) (Some 0) None
number_first b moment [] row none = elim (eqb b row) as (λ t. option_map number_of_version
    (cond t (Some (first_of b moment)) None) ≡ cond t (Some 0) None) [ true ↦ refl | false ↦ refl ]
number_first b moment (l ∷ older) row none = elim (eqb_cases l.row row) [
  | inl same ↦ cc (rw same at none)
  | inr differs ↦ rw differs (number_first b moment older row (rw differs at none))
]

-- the version at a place after version 0 has the next number
pub number_behind : (b moment : ℕ) (ls : List Later) (row k : ℕ) (l : Later) → Falls (map row_of_later ls)
    → slice_get (reverse ls) k ≡ Some l → l.row ≡ row
    → option_map number_of_version (find (λ v. eqb v.row row) (versions_from b moment ls)) ≡ Some (k + 1)
number_behind b moment [] row k l falls found same = cc
number_behind b moment (newest ∷ older) row k l falls found same =
    let apart : slice_get (reverse older ++ newest ∷ []) k ≡ Some l = rw (reverse-append (newest ∷ []) older) at found in
    elim (cases_eq k (length older)) [
      | inl here ↦
          let last : Some newest ≡ Some l = sym (slice_get_last (reverse older) newest)
          ∙ (rw (here, ← length-reverse older) at apart) in
          let same_row : eqb newest.row row ≡ true = grind (arith, nat_tests, ap (option_map row_of_later) last) in
          rw (same_row, length-versions_from b moment older) (grind arith)
      | inr elsewhere ↦
          let there : slice_get (reverse older) k ≡ Some l = sym (slice_get_others (reverse older) newest k (λ e. elsewhere (e
          ∙ length-reverse older))) ∙ apart in
          let lower : l.row < newest.row = above_found newest.row older k l falls.0 there in
          let differs : eqb newest.row row ≡ false = grind (arith, nat_tests) in
          rw differs (number_behind b moment older row k l falls.1 there same)
    ]

-- what a look-up found has the row
find_has : (ls : List Later) (row : ℕ) (l : Later) → find (λ k. eqb (row_of_later k) row) ls ≡ Some l → l.row ≡ row
find_has [] row l found = cc
find_has (k ∷ ls) row l found = elim (eqb_cases k.row row) [
  | inl same ↦ let here : Some k ≡ Some l = rw same at found in grind (arith, nat_tests, ap (option_map row_of_later) here)
  | inr differs ↦ find_has ls row l (rw differs at found)
]

module _ (b moment : ℕ) (items : List Later) (row : ℕ) (falls : Falls (map row_of_later (reverse items))) where
  -- the version that a look-up found after version 0 has the next number
  pub number_found : (k : ℕ) → k < length items → slice_get items k ≡ find (λ l. eqb (row_of_later l) row) items
      → option_map number_of_version (find (λ v. eqb v.row row) (versions_from b moment (reverse items))) ≡ Some (k + 1)
  number_found k within found =
      let (l, here) = there items k within in
      number_behind b moment (reverse items) row k l falls (rw (reverse-reverse items) here) (find_has items row l (sym found
      ∙ here))
    where
      there : (xs : List Later) (i : ℕ) → i < length xs → (l : Later) × (slice_get xs i ≡ Some l)
      there [] i lt = absurd (omega arith)
      there (x ∷ xs) zero lt = (x, refl)
      there (x ∷ xs) (suc i) lt = there xs i (omega arith)

  -- where nothing is found after it, the row is that of version 0 or of no version here
  pub number_missed : find (λ l. eqb (row_of_later l) row) items ≡ None
      → option_map number_of_version (find (λ v. eqb v.row row) (versions_from b moment (reverse items)))
      ≡ cond (eqb b row) (Some 0) None
  number_missed none = number_first b moment (reverse items) row (find-reverse row_of_later row items falls ∙ none)

-- Where a version stands.
use Rattle.std.proofs.Common.{◌≡◌, ℕ, ◌<◌, Bool, true, false, eqb, List, [], ◌∷◌, length, map, Option, Some, None, refl, inl}
use Rattle.std.proofs.Common.{inr, ap, ◌∙◌, arith}
use Rattle.std.specs.Prelude.{find, option_map, option_and_then}
use Rattle.std.proofs.lemmas.Bool.Decides.{nat_tests}
use Rattle.std.proofs.lemmas.Bool.{cases_Bool}
use Rattle.cc_names.specs.declared.changes.TreeChange.{TreeChange}
use Rattle.cc_names.specs.declared.changes.VersionId.{VersionId}
use Rattle.cc_names.specs.Falling.{IsAbove}
use Rattle.cc_names.specs.Versions.{Version, row_of_change, branch_of_change, change_at, version_at, version_of_change}
use Rattle.cc_names.specs.Versions.{versions_on, element_by, element_of_branch, number_of_version, version_id, version_id_of}
use Rattle.cc_names.specs.Versions.{put_if}
use Rattle.version_tree.proofs.FirstRows.{found_on}

module _ (changes : List TreeChange) (row : ℕ) (change : TreeChange) (made : change_at changes row ≡ Some change) where
  -- the version is looked for on the branch of the change
  version_there : version_at changes row ≡ find (λ v. eqb v.row row) (versions_on changes (branch_of_change change))
  version_there = ap (option_and_then (λ c. find (λ v. eqb v.row row) (versions_on changes (branch_of_change c)))) made

  -- a version whose branch has no element has no id
  pub version_id_without_element : element_of_branch changes (branch_of_change change) ≡ None → version_id changes row ≡ None
  version_id_without_element none = ap (option_and_then (λ v. option_map (version_id_of v) (element_of_branch changes v.branch)))
      version_there ∙ at (find (λ v. eqb v.row row) (versions_on changes (branch_of_change change))) refl
    where
      at : (o : Option Version) → find (λ v. eqb v.row row) (versions_on changes (branch_of_change change)) ≡ o
          → option_and_then (λ v. option_map (version_id_of v) (element_of_branch changes v.branch)) o ≡ None
      at None found = refl
      at (Some v) found =
          let on : v.branch ≡ branch_of_change change = found_on changes (branch_of_change change) (λ w. eqb w.row row) v found in
          ap (option_map (version_id_of v)) (ap (element_of_branch changes) on ∙ none)

  -- the id of a version whose element and number are found
  pub version_id_found : (element number : ℕ) → element_of_branch changes (branch_of_change change) ≡ Some element
      → option_map number_of_version (find (λ v. eqb v.row row) (versions_on changes (branch_of_change change))) ≡ Some number
      → version_id changes row ≡ Some (record { element = element; branch = branch_of_change change; number = number })
  version_id_found element number belongs numbers = ap (option_and_then
      (λ v. option_map (version_id_of v) (element_of_branch changes v.branch))) version_there
      ∙ at (find (λ v. eqb v.row row) (versions_on changes (branch_of_change change))) refl numbers
    where
      at : (o : Option Version) → find (λ v. eqb v.row row) (versions_on changes (branch_of_change change)) ≡ o
          → option_map number_of_version o ≡ Some number
          → option_and_then (λ v. option_map (version_id_of v) (element_of_branch changes v.branch)) o
          ≡ Some (record { element = element; branch = branch_of_change change; number = number })
      at None found numbered = cc
      at (Some v) found numbered =
          let on : v.branch ≡ branch_of_change change = found_on changes (branch_of_change change) (λ w. eqb w.row row) v found in
          let is : element_of_branch changes v.branch ≡ Some element = ap (element_of_branch changes) on ∙ belongs in
          rw is (cc)

-- a change of a later row is not what a row made
pub made_before : (change : TreeChange) (older : List TreeChange) (row : ℕ) → row < row_of_change change
    → change_at (change ∷ older) row ≡ change_at older row
made_before change older row lt =
    let other : eqb (row_of_change change) row ≡ false = grind (arith, nat_tests) in
    rw other refl

-- a row that made something is below one that is above all
made_below : (n : ℕ) (cs : List TreeChange) (row : ℕ) (change : TreeChange) → IsAbove n (map row_of_change cs)
    → change_at cs row ≡ Some change → row < n
made_below n [] row change above found = cc
made_below n (c ∷ cs) row change above found = elim (cases_Bool (eqb (row_of_change c) row)) [
  | inl same ↦ grind (arith, nat_tests, above.0)
  | inr other ↦ made_below n cs row change above.1 (rw other at found)
]

module _ (change : TreeChange) (older : List TreeChange) (above : IsAbove (row_of_change change) (map row_of_change older)) where
  -- the element of a branch that is there
  element_before : (b element : ℕ) → element_of_branch older b ≡ Some element
      → element_of_branch (change ∷ older) b ≡ Some element
  element_before b element is = at (change_at older b) refl is
    where
      at : (o : Option TreeChange) → change_at older b ≡ o → option_and_then element_by o ≡ Some element
          → element_of_branch (change ∷ older) b ≡ Some element
      at None found by = cc
      at (Some c) found by = ap (option_and_then element_by) (made_before change older b (made_below _ older b c above found)
          ∙ found) ∙ by

  -- the version of a row
  version_before : (row : ℕ) (v : Version) → version_at older row ≡ Some v → version_at (change ∷ older) row ≡ Some v
  version_before row v is = at (change_at older row) refl is
    where
      passed : (t : Bool) (newest : Version) (vs : List Version) → eqb newest.row row ≡ false
          → find (λ w. eqb w.row row) (put_if t newest vs) ≡ find (λ w. eqb w.row row) vs
      passed true newest vs other = rw other refl
      passed false newest vs other = refl

      at : (o : Option TreeChange) → change_at older row ≡ o → option_and_then
          (λ c. find (λ w. eqb w.row row) (versions_on older (branch_of_change c))) o ≡ Some v
          → version_at (change ∷ older) row ≡ Some v
      at None found by = cc
      at (Some c) found by =
          let lt : row < row_of_change change = made_below _ older row c above found in
          let other : eqb (row_of_change change) row ≡ false = grind (arith, nat_tests) in
          let b = branch_of_change c in
          ap (option_and_then (λ d. find (λ w. eqb w.row row) (versions_on (change ∷ older) (branch_of_change d))))
          (made_before change older row lt ∙ found)
          ∙ passed (eqb (branch_of_change change) b) (version_of_change change (length (versions_on older b)))
          (versions_on older b) other ∙ by

-- a version that has an id keeps it
pub version_id_before : (change : TreeChange) (older : List TreeChange) (row : ℕ) (at : VersionId)
    → IsAbove (row_of_change change) (map row_of_change older) → version_id older row ≡ Some at
    → version_id (change ∷ older) row ≡ Some at
version_id_before change older row there above is = by_version (version_at older row) refl is
  where
    by_element : (v : Version) (o : Option ℕ) → element_of_branch older v.branch ≡ o → option_map (version_id_of v) o ≡ Some there
        → option_map (version_id_of v) (element_of_branch (change ∷ older) v.branch) ≡ Some there
    by_element v None belongs stands = cc
    by_element v (Some e) belongs stands = ap (option_map (version_id_of v))
        (element_before change older above v.branch e belongs) ∙ stands

    by_version : (o : Option Version) → version_at older row ≡ o → option_and_then
        (λ v. option_map (version_id_of v) (element_of_branch older v.branch)) o ≡ Some there
        → version_id (change ∷ older) row ≡ Some there
    by_version None found stands = cc
    by_version (Some v) found stands =
        ap (option_and_then (λ w. option_map (version_id_of w) (element_of_branch (change ∷ older) w.branch)))
        (version_before change older above row v found)
        ∙ by_element v (element_of_branch older v.branch) refl stands

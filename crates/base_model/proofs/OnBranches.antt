-- What stands on a branch of a base is a version of the branch's element.
use Rattle.std.proofs.Common.{◌≡◌, refl, sym, subst, ◌∙◌, ℕ, Bool, true, false, cond, ◌==◌, Option, Some, None, List, [], ◌∷◌}
use Rattle.std.proofs.Common.{length}
use Rattle.std.specs.Prelude.{option_map, find}
use Rattle.cc_names.specs.Versions.{Version, row_of_change, branch_of_change, change_at, versions_on, version_at}
use Rattle.cc_names.specs.Versions.{version_of_change, put_if, element_of_branch, version_id_of, row_of_version}
use Rattle.cc_names.specs.declared.changes.TreeChange.{TreeChange}
use Rattle.cc_names.specs.declared.changes.TreeChange.TheVariants.{ElementMade}
use Rattle.cc_names.specs.declared.rows.Kind.TheVariants.{Directory}
use Rattle.cc_names.proofs.Common.{same_number}
use Rattle.base_model.specs.Rows.{Base, size}
use Rattle.base_model.specs.Changes.{tree}
use Rattle.base_model.specs.Closures.{is_version_of}
use Rattle.base_model.proofs.Below.{Within, within, older_change}
use Rattle.base_model.proofs.Origins.{newest_change, newest_version}
use Rattle.base_model.proofs.Owned.{same_is_same}
use Rattle.base_model.proofs.TreesStay.{Adds, Nothing, One, adds_row}
use Rattle.base_model.proofs.VersionsStay.{find_older, apart_below, is_version}

-- a version stands where its own row made it
pub record Stands (changes : List TreeChange) (branch : ℕ) (v : Version) : Type 0 where
  pub change : TreeChange
  pub made : change_at changes v.row ≡ Some change
  pub on : branch_of_change change ≡ branch
  pub found : find (λ w. w.row == v.row) (versions_on changes branch) ≡ Some v
  pub branch_is : v.branch ≡ branch

-- each version on each branch stands there
pub record AllStand (changes : List TreeChange) : Type 0 where
  pub stands : (branch : ℕ) (test : Version → Bool) (v : Version) → find test (versions_on changes branch) ≡ Some v
      → Stands changes branch v

stands_behind : (n : ℕ) (change : TreeChange) (before : List TreeChange) (branch : ℕ) (v : Version) → row_of_change change ≡ n
    → Within n before → Stands before branch v → Stands (change ∷ before) branch v
stands_behind n change before branch v number w h =
    let apart = apart_below (row_of_change change) n v.row number (w.numbers v.row h.change h.made) in
    record {
      change = h.change;
      made = older_change change before v.row apart ∙ h.made;
      on = h.on;
      found = find_older change before v.row branch apart ∙ h.found;
      branch_is = h.branch_is;
    }

-- the version that the newest change made
newest_stands : (change : TreeChange) (before : List TreeChange) → let v =
    version_of_change change (length (versions_on before (branch_of_change change))) in
    Stands (change ∷ before) (branch_of_change change) v
newest_stands change before = record {
  change = change;
  made = newest_change change before (row_of_change change) (same_is_same (row_of_change change));
  on = refl;
  found = newest_version (version_of_change change (length (versions_on before (branch_of_change change))))
      (versions_on before (branch_of_change change)) (row_of_change change)
      (branch_of_change change == branch_of_change change) (same_is_same (branch_of_change change))
      (same_is_same (row_of_change change));
  branch_is = refl;
}

one_more_stands : (n : ℕ) (change : TreeChange) (before : List TreeChange) → row_of_change change ≡ n → Within n before
    → AllStand before → AllStand (change ∷ before)
one_more_stands n change before number w h = record {
  stands = λ branch test v e. by branch test v
      (branch_of_change change == branch) refl e;
}
  where
    made : ℕ → Version
    made branch = version_of_change change (length (versions_on before branch))

    of_test : (branch : ℕ) (test : Version → Bool) (v : Version) (t : Bool) → (branch_of_change change == branch) ≡ true →
        cond t (Some (version_of_change change (length (versions_on before branch)))) (find test (versions_on before branch))
        ≡ Some v → Stands (change ∷ before) branch v
    of_test branch test v true on e =
        let here : branch_of_change change ≡ branch = same_number (branch_of_change change) branch on in
        let same : version_of_change change (length (versions_on before branch)) ≡ v = cc in
        subst (Stands (change ∷ before) branch) same
        (subst (λ b. Stands (change ∷ before) b (version_of_change change (length (versions_on before b)))) here
        (newest_stands change before))
    of_test branch test v false on e = stands_behind n change before branch v number w (h.stands branch test v e)

    by : (branch : ℕ) (test : Version → Bool) (v : Version) (x : Bool) → (branch_of_change change == branch) ≡ x →
        find test (put_if x (version_of_change change (length (versions_on before branch))) (versions_on before branch)) ≡ Some v
        → Stands (change ∷ before) branch v
    by branch test v true on e = of_test branch test v (test (version_of_change change (length (versions_on before branch)))) on e
    by branch test v false on e = stands_behind n change before branch v number w (h.stands branch test v e)

pub all_stand : (b : Base) → AllStand (tree b)
all_stand [] = one_more_stands 0 (ElementMade 0 0 Directory) [] refl (record {
  numbers = λ r c e. absurd (cc);
  branches = λ r c e. absurd (cc);
})
    (record { stands = λ branch test v e. absurd (cc) })
all_stand (row ∷ older) = by (adds_row older row.moment row.deed (tree older)) (all_stand older)
  where
    by : {after : List TreeChange} → Adds (size older) (tree older) after → AllStand (tree older) → AllStand after
    by (Nothing same) h = subst AllStand (sym same) h
    by (One change number same) h = subst AllStand (sym same) (one_more_stands (size older) change (tree older) number
        (within older) h)

-- a version on a branch of an element is one of that element
pub branch_version : (b : Base) (e branch : ℕ) (test : Version → Bool) (v : Version) → element_of_branch (tree b) branch ≡ Some e
    →
    find test (versions_on (tree b) branch) ≡ Some v → is_version_of b e v.row ≡ true
branch_version b e branch test v owner found =
    let h = (all_stand b).stands branch test v found in
    let at_row : version_at (tree b) v.row ≡ Some v = rw h.made (subst (λ m. find (λ w. w.row == v.row) (versions_on (tree b) m)
    ≡ Some v) (sym h.on) h.found) in
    let of_branch : element_of_branch (tree b) v.branch ≡ Some e = subst (λ m. element_of_branch (tree b) m ≡ Some e)
    (sym h.branch_is) owner in
    is_version b e v.row (version_id_of v e) (rw (at_row, of_branch) refl) refl

found_row : (versions : List Version) (test : Version → Bool) (r : ℕ) → option_map row_of_version (find test versions) ≡ Some r
    → (v : Version) × (find test versions ≡ Some v) × (v.row ≡ r)
found_row versions test r h = by (find test versions) refl h
  where
    by : (o : Option Version) → find test versions ≡ o → option_map row_of_version o ≡ Some r → (v : Version)
        × (find test versions ≡ Some v) × (v.row ≡ r)
    by None is h = absurd (cc)
    by (Some v) is h = (v, is, cc)

-- a version that is found on a branch by its row
pub version_found : (b : Base) (e branch : ℕ) (test : Version → Bool) (r : ℕ) → element_of_branch (tree b) branch ≡ Some e →
    option_map row_of_version (find test (versions_on (tree b) branch)) ≡ Some r → is_version_of b e r ≡ true
version_found b e branch test r owner h =
    let v = found_row (versions_on (tree b) branch) test r h in
    subst (λ r. is_version_of b e r ≡ true) v.2 (branch_version b e branch test v.0 owner v.1)

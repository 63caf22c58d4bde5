-- The version that another one follows on its branch, and the one at which its branch leaves.
use Rattle.std.proofs.Common.{◌≡◌, refl, ap, ap₂, sym, subst, ◌∙◌, ℕ, zero, suc, ◌<◌, Bool, true, false, cond, ◌&&◌, ◌||◌, ◌==◌}
use Rattle.std.proofs.Common.{Option, Some, None, List, [], ◌∷◌, length, arith}
use Rattle.std.proofs.lemmas.Bool.Decides.{nat_tests}
use Rattle.std.specs.Prelude.{find, is_some, option_and_then, option_map}
use Rattle.cc_names.specs.Branches.{branch_of_version, origin_by, origin_of}
use Rattle.cc_names.specs.Versions.{Version, branch_of_change, change_at, element_by, element_of_branch, is_number}
use Rattle.cc_names.specs.Versions.{version_of_number, put_if, row_of_change, row_of_version, version_at, version_id}
use Rattle.cc_names.specs.Versions.{version_id_of, version_of_change, versions_on}
use Rattle.cc_names.specs.declared.changes.TreeChange.{TreeChange}
use Rattle.cc_names.specs.declared.changes.TreeChange.TheVariants.{ElementMade, BranchMade, VersionMade}
use Rattle.cc_names.specs.declared.changes.VersionId.{VersionId}
use Rattle.cc_names.specs.declared.rows.Deed.{Deed}
use Rattle.cc_names.specs.declared.rows.Deed.TheVariants as deeds
use Rattle.cc_names.specs.declared.rows.Kind.TheVariants.{Directory}
use Rattle.cc_names.proofs.Common.{same_test, number_found, found_passes, same_number}
use Rattle.base_model.specs.Changes.{tree, tree_after, with_checkin, with_version}
use Rattle.base_model.specs.Rows.{Base, size}
use Rattle.base_model.specs.Views.{Checkout, out}
use Rattle.legal_history.specs.Queries.Merges.{is_branch_from, is_successor}
use Rattle.base_model.proofs.Below.{Within, older_change, within}
use Rattle.base_model.proofs.OnBranches.{all_stand}
use Rattle.base_model.proofs.Origins.{newest_change}
use Rattle.base_model.proofs.Owned.{same_is_same}
use Rattle.base_model.proofs.TreesStay.{Adds, Nothing, One, adds_row}
use Rattle.base_model.proofs.VersionsStay.{apart_below, parts_of}
use Rattle.vob_history.specs.Reached.{numbered_before, predecessor}

is_itself : (n : ℕ) (found : Option ℕ) → found ≡ Some n → is_number n found ≡ true
is_itself n found h = ap (is_number n) h ∙ same_is_same n

-- ---- the numbers of versions

-- a version is found on its branch by its number
record Numbered (changes : List TreeChange) (branch : ℕ) (v : Version) : Type 0 where
  found : find (λ w. w.number == v.number) (versions_on changes branch) ≡ Some v
  low : v.number < length (versions_on changes branch)

has_number : (changes : List TreeChange) (branch : ℕ) (test : Version → Bool) (v : Version)
    → find test (versions_on changes branch) ≡ Some v → Numbered changes branch v
has_number [] branch test v h = absurd (cc)
has_number (change ∷ older) branch test v h = by (branch_of_change change == branch) refl h (has_number older branch test v)
  where
    first : (branch_of_change change == branch) ≡ true → versions_on (change ∷ older) branch
        ≡ version_of_change change (length (versions_on older branch)) ∷ versions_on older branch
    first on = ap (λ t. put_if t (version_of_change change (length (versions_on older branch))) (versions_on older branch)) on

    behind : Numbered older branch v → (branch_of_change change == branch) ≡ true → Numbered (change ∷ older) branch v
    behind before on =
        let low = before.low in
        let apart : (length (versions_on older branch) == v.number) ≡ false = grind (arith, nat_tests, low) in
        record {
          found =
              ap (find (λ w. w.number == v.number)) (first on)
              ∙ ap (λ t. cond t (Some (version_of_change change (length (versions_on older branch))))
              (find (λ w. w.number == v.number) (versions_on older branch))) apart
              ∙ before.found;
          low = let count = ap length (first on) in omega (arith, count, low);
        }

    here : version_of_change change (length (versions_on older branch)) ≡ v → (branch_of_change change == branch) ≡ true
        → Numbered (change ∷ older) branch v
    here same on =
        let number : length (versions_on older branch) ≡ v.number = ap (λ w. w.number) same in
        record {
          found =
              ap (find (λ w. w.number == v.number)) (first on)
              ∙ ap (λ t. cond t (Some (version_of_change change (length (versions_on older branch))))
              (find (λ w. w.number == v.number) (versions_on older branch)))
              (ap (λ n. n == v.number) number ∙ same_is_same v.number)
              ∙ ap Some same;
          low = let count = ap length (first on) in omega (arith, count, number);
        }

    of_test : (t : Bool) → cond t (Some (version_of_change change (length (versions_on older branch))))
        (find test (versions_on older branch)) ≡ Some v →
        (find test (versions_on older branch) ≡ Some v → Numbered older branch v) → (branch_of_change change == branch) ≡ true
        → Numbered (change ∷ older) branch v
    of_test true h before on = let same : version_of_change change (length (versions_on older branch)) ≡ v = cc in here same on
    of_test false h before on = behind (before h) on

    by : (t : Bool) → (branch_of_change change == branch) ≡ t → find test
        (put_if t (version_of_change change (length (versions_on older branch))) (versions_on older branch)) ≡ Some v →
        (find test (versions_on older branch) ≡ Some v → Numbered older branch v) → Numbered (change ∷ older) branch v
    by true on h before = of_test (test (version_of_change change (length (versions_on older branch)))) h before on
    by false on h before =
        let version_of_number = before h in
        let same : versions_on (change ∷ older) branch ≡ versions_on older branch =
        ap (λ t. put_if t (version_of_change change (length (versions_on older branch))) (versions_on older branch)) on in
        record {
          found = ap (find (λ w. w.number == v.number)) same ∙ version_of_number.found;
          low = subst (λ versions. v.number < length versions) (sym same) version_of_number.low;
        }

-- the version that a row made is the one of its number on its branch
row_of_number : (b : Base) (r : ℕ) (v : Version) → version_at (tree b) r ≡ Some v
    → version_of_number (tree b) v.branch v.number ≡ Some r
row_of_number b r v h = by (change_at (tree b) r) h
  where
    by : (o : Option TreeChange) → option_and_then (λ change. find (λ v. v.row == r)
        (versions_on (tree b) (branch_of_change change))) o ≡ Some v → version_of_number (tree b) v.branch v.number ≡ Some r
    by None h = absurd (cc)
    by (Some change) h =
        let branch = branch_of_change change in
        let stands = (all_stand b).stands branch (λ v. v.row == r) v h in
        let row : v.row ≡ r = same_number v.row r (found_passes (λ v. v.row == r) (versions_on (tree b) branch) v h) in
        ap (λ on. version_of_number (tree b) on v.number) stands.branch_is
        ∙ ap (option_map row_of_version) (has_number (tree b) branch (λ v. v.row == r) v h).found
        ∙ ap Some row

-- the version of a number on a branch is the one that its row made
record RowOf (b : Base) (branch n r : ℕ) : Type 0 where
  version : Version
  made : version_at (tree b) r ≡ Some version
  on : version.branch ≡ branch
  number : version.number ≡ n

number_of_row : (b : Base) (branch n r : ℕ) → version_of_number (tree b) branch n ≡ Some r → RowOf b branch n r
number_of_row b branch n r h = by (find (λ v. v.number == n) (versions_on (tree b) branch)) refl h
  where
    by : (o : Option Version) → find (λ v. v.number == n) (versions_on (tree b) branch) ≡ o → option_map row_of_version o ≡ Some r
        → RowOf b branch n r
    by None found h = absurd (cc)
    by (Some v) found h =
        let row : v.row ≡ r = cc in
        let stands = (all_stand b).stands branch (λ v. v.number == n) v found in
        let at_row : version_at (tree b) v.row ≡ Some v = rw stands.made
        (subst (λ m. find (λ w. w.row == v.row) (versions_on (tree b) m) ≡ Some v) (sym stands.on) stands.found) in
        record {
          version = v;
          made = subst (λ k. version_at (tree b) k ≡ Some v) row at_row;
          on = stands.branch_is;
          number = same_number v.number n (found_passes (λ v. v.number == n) (versions_on (tree b) branch) v found);
        }

-- ---- the elements of branches

-- the branch of each change is one of an element
record AreOwned (changes : List TreeChange) : Type 0 where
  owned : (r : ℕ) (c : TreeChange) → change_at changes r ≡ Some c → is_some (element_of_branch changes (branch_of_change c))
      ≡ true

one_more_owned : (n : ℕ) (change : TreeChange) (before : List TreeChange) → row_of_change change ≡ n → Within n before
    → AreOwned before →
    is_some (element_of_branch (change ∷ before) (branch_of_change change)) ≡ true → AreOwned (change ∷ before)
one_more_owned n change before number low h own = record { owned = λ r c is. by r c (row_of_change change == r) refl is }
  where
    by : (r : ℕ) (c : TreeChange) (t : Bool) → (row_of_change change == r) ≡ t
        → cond t (Some change) (change_at before r) ≡ Some c → is_some (element_of_branch (change ∷ before) (branch_of_change c))
        ≡ true
    by r c true e is = let same : change ≡ c = cc in subst (λ c. is_some
        (element_of_branch (change ∷ before) (branch_of_change c)) ≡ true) same own
    by r c false e is =
        ap (λ o. is_some (option_and_then element_by o)) (older_change change before (branch_of_change c)
        (apart_below (row_of_change change) n (branch_of_change c) number (low.branches r c is)))
        ∙ h.owned r c is

branch_owned : (before : List TreeChange) (version branch : ℕ) → AreOwned before → branch_of_version before version ≡ Some branch
    → is_some (element_of_branch before branch) ≡ true
branch_owned before version branch h e = by (change_at before version) refl e
  where
    by : (o : Option TreeChange) → change_at before version ≡ o → option_map branch_of_change o ≡ Some branch
        → is_some (element_of_branch before branch) ≡ true
    by None is e = absurd (cc)
    by (Some c) is e = let same : branch_of_change c ≡ branch = cc in subst (λ m. is_some (element_of_branch before m) ≡ true)
        same (h.owned version c is)

version_owned : (n moment : ℕ) (origin : ℕ) (before : List TreeChange) (branch : Option ℕ)
    → branch_of_version before origin ≡ branch → Within n before → AreOwned before
    → AreOwned (with_version n moment branch before)
version_owned n moment origin before None is low h = h
version_owned n moment origin before (Some branch) is low h =
    one_more_owned n (VersionMade n moment branch) before refl low h
    (ap (λ o. is_some (option_and_then element_by o)) (older_change (VersionMade n moment branch) before branch
    (apart_below n n branch refl (below (change_at before origin) refl is)))
    ∙ branch_owned before origin branch h is)
  where
    below : (o : Option TreeChange) → change_at before origin ≡ o → option_map branch_of_change o ≡ Some branch → branch < n
    below None at is = absurd (cc)
    below (Some c) at is = let same : branch_of_change c ≡ branch = cc in subst (λ m. m < n) same (low.branches origin c at)

are_owned : (b : Base) → AreOwned (tree b)
are_owned [] = one_more_owned 0 (ElementMade 0 0 Directory) [] refl (record {
  numbers = λ r c e. absurd (cc);
  branches = λ r c e. absurd (cc);
}) (record { owned = λ r c e. absurd (cc) }) refl
are_owned (row ∷ older) = by row.deed (are_owned older)
  where
    by_out : (taken : Option Checkout) → AreOwned (tree older) → AreOwned
        (with_checkin (size older) row.moment taken (tree older))
    by_out None h = h
    by_out (Some checkout) h = version_owned (size older) row.moment checkout.origin (tree older)
        (branch_of_version (tree older) checkout.origin) refl (within older) h

    by : (deed : Deed) → AreOwned (tree older) → AreOwned (tree_after older row.moment deed (tree older))
    by (deeds.Mkelem v directory name kind taken) h =
        one_more_owned (size older) (ElementMade (size older) row.moment kind) (tree older) refl (within older) h
        (ap (λ o. is_some (option_and_then element_by o)) (newest_change (ElementMade (size older) row.moment kind) (tree older)
        (size older) (same_is_same (size older))))
    by (deeds.Branch v e origin name taken) h =
        one_more_owned (size older) (BranchMade (size older) row.moment e origin name) (tree older) refl (within older) h
        (ap (λ o. is_some (option_and_then element_by o)) (newest_change (BranchMade (size older) row.moment e origin name)
        (tree older) (size older) (same_is_same (size older))))
    by (deeds.Checkin v e) h = by_out (out older v e) h
    by deed h = h

-- a version has an id
record HasId (b : Base) (r : ℕ) (v : Version) : Type 0 where
  element : ℕ
  is : version_id (tree b) r ≡ Some (version_id_of v element)

has_id : (b : Base) (r : ℕ) (v : Version) → version_at (tree b) r ≡ Some v → HasId b r v
has_id b r v h = by_change (change_at (tree b) r) refl h
  where
    by_owner : (o : Option ℕ) → element_of_branch (tree b) v.branch ≡ o → is_some o ≡ true → HasId b r v
    by_owner None owner is = absurd (cc)
    by_owner (Some e) owner is = record {
      element = e;
      is = ap (option_and_then
          (λ v. option_map (version_id_of v) (element_of_branch (tree b) v.branch))) h ∙ ap (option_map (version_id_of v)) owner;
    }

    by_change : (o : Option TreeChange) → change_at (tree b) r ≡ o → option_and_then
        (λ change. find (λ v. v.row == r) (versions_on (tree b) (branch_of_change change))) o ≡ Some v → HasId b r v
    by_change None at h = absurd (cc)
    by_change (Some c) at h =
        let stands = (all_stand b).stands (branch_of_change c) (λ v. v.row == r) v h in
        by_owner (element_of_branch (tree b) v.branch) refl
        (ap (λ m. is_some (element_of_branch (tree b) m)) stands.branch_is ∙ (are_owned b).owned r c at)

-- ---- what a version follows

module _ (b : Base) (one two : ℕ) where
  came_before : is_successor b one two ≡ true → is_number one (predecessor (tree b) two) ≡ true
  came_before h = by (version_at (tree b) one) refl h
    where
      by : (o : Option Version) → version_at (tree b) one ≡ o → is_number two
          (option_and_then (λ version. version_of_number (tree b) version.branch (suc version.number)) o) ≡ true
          → is_number one (predecessor (tree b) two) ≡ true
      by None at h = absurd (cc)
      by (Some v) at h =
          let next = number_of_row b v.branch (suc v.number) two (number_found two
          (version_of_number (tree b) v.branch (suc v.number)) h) in
          let id = has_id b two next.version next.made in
          is_itself one (predecessor (tree b) two)
          (ap (option_and_then (λ version_id. numbered_before (tree b) version_id.branch version_id.number)) id.is
          ∙ ap₂ (λ branch number. numbered_before (tree b) branch number) next.on next.number
          ∙ row_of_number b one v at)

  comes_next : is_number one (predecessor (tree b) two) ≡ true → is_successor b one two ≡ true
  comes_next h = by (version_id (tree b) two) refl (number_found one (predecessor (tree b) two) h)
    where
      by_number : (v : Version) (n : ℕ) → version_at (tree b) two ≡ Some v → v.number ≡ n
          → numbered_before (tree b) v.branch n ≡ Some one → is_successor b one two ≡ true
      by_number v zero at number h = absurd (cc)
      by_number v (suc n) at number h =
          let before = number_of_row b v.branch n one h in
          is_itself two (option_and_then (λ version. version_of_number (tree b) version.branch (suc version.number))
          (version_at (tree b) one))
          (ap (option_and_then (λ version. version_of_number (tree b) version.branch (suc version.number))) before.made
          ∙ ap₂ (λ branch number. version_of_number (tree b) branch number) before.on (ap suc before.number ∙ sym number)
          ∙ row_of_number b two v at)

      by : (o : Option VersionId) → version_id (tree b) two ≡ o → option_and_then
          (λ version_id. numbered_before (tree b) version_id.branch version_id.number) o ≡ Some one
          → is_successor b one two ≡ true
      by None at h = absurd (cc)
      by (Some p) at h =
          let parts = parts_of (tree b) two p at in
          let version : version_at (tree b) two ≡ Some parts.version = rw parts.made parts.found in
          by_number parts.version parts.version.number version refl (ap (λ q. numbered_before (tree b) q.branch q.number)
          (sym parts.is) ∙ h)

  -- the version before another one is the one that has it as its successor
  pub successor_by : is_successor b one two ≡ is_number one (predecessor (tree b) two)
  successor_by = same_test (is_successor b one two) (is_number one (predecessor (tree b) two)) came_before comes_next

-- ---- where a branch leaves

none_from : (changes : List TreeChange) (one two : ℕ) → change_at changes two ≡ None → is_branch_from changes one two ≡ false
none_from [] one two h = refl
none_from (change ∷ older) one two h = by (row_of_change change == two) h (none_from older one two)
  where
    by : (t : Bool) → cond t (Some change) (change_at older two) ≡ None
        → (change_at older two ≡ None → is_branch_from older one two ≡ false)
        → ((t && is_number one (origin_by change)) || is_branch_from older one two) ≡ false
    by true h rest = absurd (cc)
    by false h rest = rest h

pub branch_by : (b : Base) (one two : ℕ) → is_branch_from (tree b) one two ≡ is_number one (origin_of (tree b) two)
branch_by [] one two = by (0 == two)
  where
    by : (t : Bool) → ((t && false) || false) ≡ is_number one (option_and_then origin_by
        (cond t (Some (ElementMade 0 0 Directory)) None))
    by true = refl
    by false = refl
branch_by (row ∷ older) one two = by (adds_row older row.moment row.deed (tree older)) (branch_by older one two)
  where
    or_none : (t : Bool) → (t || false) ≡ t
    or_none true = refl
    or_none false = refl

    absent : two ≡ size older → (o : Option TreeChange) → change_at (tree older) two ≡ o → o ≡ None
    absent same None at = refl
    absent same (Some c) at = let low = (within older).numbers two c at in absurd (omega (arith, low, same))

    newest : (change : TreeChange) → row_of_change change ≡ size older
        → is_branch_from (tree older) one two ≡ is_number one (origin_of (tree older) two) → (t : Bool)
        → (row_of_change change == two) ≡ t →
        ((t && is_number one (origin_by change)) || is_branch_from (tree older) one two)
        ≡ is_number one (option_and_then origin_by (cond t (Some change) (change_at (tree older) two)))
    newest change number before true e =
        ap (λ t. is_number one (origin_by change) || t) (none_from (tree older) one two
        (absent (sym (same_number (row_of_change change) two e) ∙ number) (change_at (tree older) two) refl))
        ∙ or_none (is_number one (origin_by change))
    newest change number before false e = before

    by : {after : List TreeChange} → Adds (size older) (tree older) after
        → is_branch_from (tree older) one two ≡ is_number one (origin_of (tree older) two)
        → is_branch_from after one two ≡ is_number one (origin_of after two)
    by (Nothing same) before = subst (λ changes. is_branch_from changes one two ≡ is_number one (origin_of changes two))
        (sym same) before
    by (One change number same) before =
        subst (λ changes. is_branch_from changes one two ≡ is_number one (origin_of changes two)) (sym same)
        (newest change number before (row_of_change change == two) refl)

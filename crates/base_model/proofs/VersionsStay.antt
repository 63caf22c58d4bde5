-- A version of a base stays one when rows are added, and each version is one of an element.
use Rattle.std.proofs.Common.{◌≡◌, refl, ap, sym, ◌∙◌, ℕ, ◌<◌, Bool, true, false, cond, ◌==◌, Option, Some, None, List, ◌∷◌}
use Rattle.std.proofs.Common.{length, arith}
use Rattle.std.proofs.lemmas.Bool.Decides.{nat_tests}
use Rattle.std.specs.Prelude.{option_and_then, option_map, find}
use Rattle.cc_names.specs.Formed.{Plain}
use Rattle.cc_names.specs.Versions.{Version, row_of_change, branch_of_change, change_at, versions_on, version_of_change}
use Rattle.cc_names.specs.Versions.{element_by, element_of_branch, version_id, version_id_of, put_if, kind_of, kind_by}
use Rattle.cc_names.specs.declared.changes.VersionId.{VersionId}
use Rattle.cc_names.specs.declared.changes.TreeChange.{TreeChange}
use Rattle.cc_names.specs.declared.rows.Kind.{Kind}
use Rattle.base_model.specs.Rows.{Base, size}
use Rattle.base_model.specs.Changes.{tree}
use Rattle.base_model.specs.Closures.{is_of_element, is_version_of}
use Rattle.base_model.proofs.Below.{Within, within, older_change}
use Rattle.base_model.proofs.TreesStay.{Adds, Nothing, One, adds_row}

-- what a version id is made of
pub record Parts (changes : List TreeChange) (r : ℕ) (p : VersionId) : Type 0 where
  pub change : TreeChange
  pub version : Version
  pub made : change_at changes r ≡ Some change
  pub found : find (λ v. v.row == r) (versions_on changes (branch_of_change change)) ≡ Some version
  pub owner : element_of_branch changes version.branch ≡ Some p.element
  pub is : p ≡ version_id_of version p.element

pub parts_of : (changes : List TreeChange) (r : ℕ) (p : VersionId) → version_id changes r ≡ Some p → Parts changes r p
parts_of changes r p e = by_change (change_at changes r) refl e
  where
    by_element : (c : TreeChange) (v : Version) (o : Option ℕ) → change_at changes r ≡ Some c
        → find (λ v. v.row == r) (versions_on changes (branch_of_change c)) ≡ Some v →
        element_of_branch changes v.branch ≡ o → option_map (version_id_of v) o ≡ Some p → Parts changes r p
    by_element c v None made found owner e = absurd (cc)
    by_element c v (Some element) made found owner e =
        let same : version_id_of v element ≡ p = cc in
        let of_p : element ≡ p.element = ap (λ p. p.element) same in
        record {
          change = c;
          version = v;
          made = made;
          found = found;
          owner = owner ∙ ap Some of_p;
          is = sym same
              ∙ ap (version_id_of v) of_p;
        }

    by_version : (c : TreeChange) (o : Option Version) → change_at changes r ≡ Some c
        → find (λ v. v.row == r) (versions_on changes (branch_of_change c)) ≡ o →
        option_and_then (λ v. option_map (version_id_of v) (element_of_branch changes v.branch)) o ≡ Some p → Parts changes r p
    by_version c None made found e = absurd (cc)
    by_version c (Some v) made found e = by_element c v (element_of_branch changes v.branch) made found refl e

    by_change : (o : Option TreeChange) → change_at changes r ≡ o →
        option_and_then (λ v. option_map (version_id_of v) (element_of_branch changes v.branch))
        (option_and_then (λ c. find (λ v. v.row == r) (versions_on changes (branch_of_change c))) o) ≡ Some p →
        Parts changes r p
    by_change None made e = absurd (cc)
    by_change (Some c) made e = by_version c (find (λ v. v.row == r) (versions_on changes (branch_of_change c))) made refl e

pub version_id_by : (changes : List TreeChange) (r : ℕ) (p : VersionId) → Parts changes r p → version_id changes r ≡ Some p
version_id_by changes r p h = rw (h.made, h.found, h.owner) (ap Some (sym h.is))

-- a version on a branch is found as before where a change after it is no such version
pub find_older : (change : TreeChange) (before : List TreeChange) (r branch : ℕ) → (row_of_change change == r) ≡ false →
    find (λ v. v.row == r) (versions_on (change ∷ before) branch) ≡ find (λ v. v.row == r) (versions_on before branch)
find_older change before r branch apart = by (branch_of_change change == branch)
  where
    by : (test : Bool) → find (λ v. v.row == r) (put_if test (version_of_change change (length (versions_on before branch)))
        (versions_on before branch)) ≡ find (λ v. v.row == r) (versions_on before branch)
    by true = ap (λ b. cond b (Some (version_of_change change (length (versions_on before branch))))
        (find (λ v. v.row == r) (versions_on before branch))) apart
    by false = refl

-- a number below another is not that one
pub apart_below : (m n r : ℕ) → m ≡ n → r < n → (m == r) ≡ false
apart_below m n r e h = grind (arith, nat_tests)

pub owner_change : (before : List TreeChange) (branch e : ℕ) → element_of_branch before branch ≡ Some e → (c : TreeChange)
    × (change_at before branch ≡ Some c) × (element_by c ≡ Some e)
owner_change before branch e h = by (change_at before branch) refl h
  where
    by : (o : Option TreeChange) → change_at before branch ≡ o → option_and_then element_by o ≡ Some e → (c : TreeChange)
        × (change_at before branch ≡ Some c) × (element_by c ≡ Some e)
    by None is h = absurd (cc)
    by (Some c) is h = (c, is, h)

pub version_id_stays_by : (n : ℕ) (change : TreeChange) (before : List TreeChange) (r : ℕ) (p : VersionId)
    → row_of_change change ≡ n → Within n before →
    version_id before r ≡ Some p → version_id (change ∷ before) r ≡ Some p
version_id_stays_by n change before r p number within e =
    let parts = parts_of before r p e in
    let apart = apart_below (row_of_change change) n r number (within.numbers r parts.change parts.made) in
    let owner = owner_change before parts.version.branch p.element parts.owner in
    let apart_branch = apart_below (row_of_change change) n parts.version.branch number
    (within.numbers parts.version.branch owner.0 owner.1) in
    version_id_by (change ∷ before) r p (record {
      change = parts.change;
      version = parts.version;
      made = older_change change before r apart ∙ parts.made;
      found = find_older change before r (branch_of_change parts.change) apart ∙ parts.found;
      owner = ap (option_and_then element_by) (older_change change before parts.version.branch apart_branch) ∙ parts.owner;
      is = parts.is;
    })

pub version_id_stays : (row : Plain) (b : Base) (r : ℕ) (p : VersionId) → version_id (tree b) r ≡ Some p
    → version_id (tree (row ∷ b)) r ≡ Some p
version_id_stays row b r p e = by (adds_row b row.moment row.deed (tree b))
  where
    by : {after : List TreeChange} → Adds (size b) (tree b) after → version_id after r ≡ Some p
    by (Nothing same) = ap (λ changes. version_id changes r) same ∙ e
    by (One change number same) = ap (λ changes. version_id changes r) same
        ∙ version_id_stays_by (size b) change (tree b) r p number (within b) e

-- a version of an element, by its version id
pub of_element : (b : Base) (e r : ℕ) → is_version_of b e r ≡ true → (p : VersionId) × (version_id (tree b) r ≡ Some p)
    × (p.element ≡ e)
of_element b e r h = by (version_id (tree b) r) refl h
  where
    by : (o : Option VersionId) → version_id (tree b) r ≡ o → is_of_element e o ≡ true → (p : VersionId)
        × (version_id (tree b) r ≡ Some p) × (p.element ≡ e)
    by None is h = absurd (cc)
    by (Some p) is h = (p, is, grind (arith, nat_tests))

pub is_version : (b : Base) (e r : ℕ) (p : VersionId) → version_id (tree b) r ≡ Some p → p.element ≡ e
    → is_version_of b e r ≡ true
is_version b e r p is same = rw is (grind (arith, nat_tests))

pub version_stays : (row : Plain) (b : Base) (e r : ℕ) → is_version_of b e r ≡ true → is_version_of (row ∷ b) e r ≡ true
version_stays row b e r h = let p = of_element b e r h in is_version (row ∷ b) e r p.0 (version_id_stays row b r p.0 p.1) p.2

-- what is an element stays one, of the same kind
pub kind_stays : (row : Plain) (b : Base) (e : ℕ) (k : Kind) → kind_of (tree b) e ≡ Some k → kind_of (tree (row ∷ b)) e ≡ Some k
kind_stays row b e k h = by (adds_row b row.moment row.deed (tree b))
  where
    found : (o : Option TreeChange) → change_at (tree b) e ≡ o → option_and_then kind_by o ≡ Some k → (c : TreeChange)
        × (change_at (tree b) e ≡ Some c)
    found None is h = absurd (cc)
    found (Some c) is h = (c, is)

    by : {after : List TreeChange} → Adds (size b) (tree b) after → kind_of after e ≡ Some k
    by (Nothing same) = ap (λ changes. kind_of changes e) same ∙ h
    by (One change number same) =
        let c = found (change_at (tree b) e) refl h in
        ap (λ changes. kind_of changes e) same
        ∙ ap (option_and_then kind_by) (older_change change (tree b) e
        (apart_below (row_of_change change) (size b) e number ((within b).numbers e c.0 c.1))) ∙ h

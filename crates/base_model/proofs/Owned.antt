-- In a base each version and each checkout is one of an element.
use Rattle.std.proofs.Common.{◌≡◌, refl, ap, subst, ◌∙◌, ℕ, Bool, true, false, cond, not, ◌&&◌, ◌==◌, Option, Some, None, List}
use Rattle.std.proofs.Common.{[], ◌∷◌, arith}
use Rattle.std.proofs.lemmas.Bool.Decides.{nat_tests}
use Rattle.std.specs.Prelude.{is_some, option_and_then}
use Rattle.cc_names.specs.Formed.{Plain}
use Rattle.cc_names.specs.Branches.{branch_of_version}
use Rattle.cc_names.specs.Versions.{row_of_change, change_at, element_by, version_id, kind_of, kind_by}
use Rattle.cc_names.specs.declared.changes.VersionId.{VersionId}
use Rattle.cc_names.specs.declared.changes.TreeChange.{TreeChange}
use Rattle.cc_names.specs.declared.changes.TreeChange.TheVariants.{ElementMade, BranchMade, VersionMade}
use Rattle.cc_names.specs.declared.rows.Deed.{Deed}
use Rattle.cc_names.specs.declared.rows.Deed.TheVariants as deeds
use Rattle.cc_names.specs.declared.rows.Kind.{Kind}
use Rattle.cc_names.specs.declared.rows.Kind.TheVariants.{Directory}
use Rattle.cc_names.proofs.Common.{and_first, and_second}
use Rattle.base_model.specs.Rows.{Base, size}
use Rattle.base_model.specs.Changes.{tree, tree_after, with_version, with_checkin}
use Rattle.base_model.specs.Closures.{is_version_of}
use Rattle.base_model.specs.Conditions.{exists, has_out, is_branch_type, has_branch}
use Rattle.base_model.specs.Fits.{deed_fits, is_base}
use Rattle.base_model.specs.Views.{Checkout, out}
use Rattle.base_model.proofs.Below.{Within, within, older_change}
use Rattle.base_model.proofs.VersionsStay.{parts_of, owner_change, of_element}

-- the newest row of a base fits the rows below it, which are a base
pub row_fits : (row : Plain) (older : Base) → is_base (row ∷ older) ≡ true → deed_fits older row.deed ≡ true
row_fits row older h = and_second _ _ (and_first _ _ h)

pub rows_below : (row : Plain) (older : Base) → is_base (row ∷ older) ≡ true → is_base older ≡ true
rows_below row older h = and_second _ _ h

-- each element or branch that changes made is one of an element with a kind
pub record AllOwned (changes : List TreeChange) : Type 0 where
  pub kinds : (r : ℕ) (c : TreeChange) (e : ℕ) → change_at changes r ≡ Some c → element_by c ≡ Some e
      → is_some (kind_of changes e) ≡ true

owner_has_kind : (changes : List TreeChange) (r : ℕ) (p : VersionId) → AllOwned changes → version_id changes r ≡ Some p
    → is_some (kind_of changes p.element) ≡ true
owner_has_kind changes r p h e =
    let parts = parts_of changes r p e in
    let owner = owner_change changes parts.version.branch p.element parts.owner in
    h.kinds parts.version.branch owner.0 p.element owner.1 owner.2

-- a kind stays where a change by a later row is put first
kind_behind : (change : TreeChange) (before : List TreeChange) (e : ℕ)
    → ((c : TreeChange) → change_at before e ≡ Some c → (row_of_change change == e) ≡ false) →
    is_some (kind_of before e) ≡ true → is_some (kind_of (change ∷ before) e) ≡ true
kind_behind change before e apart h = by (change_at before e) refl h
  where
    by : (o : Option TreeChange) → change_at before e ≡ o → is_some (option_and_then kind_by o) ≡ true
        → is_some (kind_of (change ∷ before) e) ≡ true
    by None is h = absurd (cc)
    by (Some c) is h = ap (λ o. is_some (option_and_then kind_by o)) (older_change change before e (apart c is) ∙ is) ∙ h

later_apart : (n : ℕ) (change : TreeChange) (before : List TreeChange) → row_of_change change ≡ n → Within n before
    → (e : ℕ) (c : TreeChange) → change_at before e ≡ Some c → (row_of_change change == e) ≡ false
later_apart n change before number w e c is = let low = w.numbers e c is in grind (arith, nat_tests)

-- one more change, whose own element has a kind
one_more_owned : (n : ℕ) (change : TreeChange) (before : List TreeChange) → row_of_change change ≡ n → Within n before
    → AllOwned before →
    ((e : ℕ) → element_by change ≡ Some e → is_some (kind_of (change ∷ before) e) ≡ true) → AllOwned (change ∷ before)
one_more_owned n change before number w h own = record { kinds = λ r c e. by r c e (row_of_change change == r) refl }
  where
    by : (r : ℕ) (c : TreeChange) (e : ℕ) (x : Bool) → (row_of_change change == r) ≡ x
        → cond x (Some change) (change_at before r) ≡ Some c → element_by c ≡ Some e
        → is_some (kind_of (change ∷ before) e) ≡ true
    by r c e true test is owns = let same : change ≡ c = cc in own e (ap element_by same ∙ owns)
    by r c e false test is owns = kind_behind change before e (later_apart n change before number w e) (h.kinds r c e is owns)

version_owned : (n moment : ℕ) (branch : Option ℕ) (before : List TreeChange) → Within n before → AllOwned before
    → AllOwned (with_version n moment branch before)
version_owned n moment None before w h = h
version_owned n moment (Some branch) before w h = one_more_owned n (VersionMade n moment branch) before refl w h
    (λ e owns. absurd (cc))

checkin_owned : (n moment : ℕ) (checkout : Option Checkout) (before : List TreeChange) → Within n before → AllOwned before
    → AllOwned (with_checkin n moment checkout before)
checkin_owned n moment None before w h = h
checkin_owned n moment (Some checkout) before w h = version_owned n moment (branch_of_version before checkout.origin) before w h

pub same_is_same : (n : ℕ) → (n == n) ≡ true
same_is_same n = grind (arith, nat_tests)

-- a new element has its kind
new_kind : (n moment : ℕ) (kind : Kind) (before : List TreeChange) (e : ℕ) → Some n ≡ Some e
    → is_some (kind_of (ElementMade n moment kind ∷ before) e) ≡ true
new_kind n moment kind before e same =
    let number : n ≡ e = cc in
    subst (λ e. is_some (kind_of (ElementMade n moment kind ∷ before) e) ≡ true) number
    (ap (λ b. is_some (option_and_then kind_by (cond b (Some (ElementMade n moment kind)) (change_at before n))))
    (same_is_same n))

-- the third of five tests
pub third_of : (a b c d e : Bool) → (a && b && c && d && e) ≡ true → c ≡ true
third_of a b c d e h = and_second (a && b) c (and_first (a && b && c) d (and_first (a && b && c && d) e h))

row_owned : (older : Base) (moment : ℕ) (deed : Deed) → deed_fits older deed ≡ true → AllOwned (tree older)
    → AllOwned (tree_after older moment deed (tree older))
row_owned older moment (deeds.Mkelem v directory name kind taken) fit h =
    one_more_owned (size older) (ElementMade (size older) moment kind) (tree older) refl (within older) h
    (new_kind (size older) moment kind (tree older))
row_owned older moment (deeds.Branch v f origin name taken) fit h =
    one_more_owned (size older) (BranchMade (size older) moment f origin name) (tree older) refl (within older) h own
  where
    has_kind : is_some (kind_of (tree older) f) ≡ true
    has_kind = let p = of_element older f origin (third_of (exists older v) (not (has_out older v f))
        (is_version_of older f origin) (is_branch_type older name) (not (has_branch older f name)) fit) in
        subst (λ e. is_some (kind_of (tree older) e) ≡ true) p.2 (owner_has_kind (tree older) origin p.0 h p.1)

    own : (e : ℕ) → Some f ≡ Some e → is_some (kind_of (BranchMade (size older) moment f origin name ∷ tree older) e) ≡ true
    own e same = let number : f ≡ e = cc in
        subst (λ e. is_some (kind_of (BranchMade (size older) moment f origin name ∷ tree older) e) ≡ true) number
        (kind_behind (BranchMade (size older) moment f origin name) (tree older) f
        (later_apart (size older) (BranchMade (size older) moment f origin name) (tree older) refl (within older) f) has_kind)
row_owned older moment (deeds.Checkin v e) fit h = checkin_owned (size older) moment (out older v e) (tree older) (within older) h
row_owned older moment deed fit h = h

pub all_owned : (b : Base) → is_base b ≡ true → AllOwned (tree b)
all_owned [] h = one_more_owned 0 (ElementMade 0 0 Directory) [] refl (record {
  numbers = λ r c e. absurd (cc);
  branches = λ r c e. absurd (cc);
})
    (record { kinds = λ r c e is owns. absurd (cc) }) (new_kind 0 0 Directory [])
all_owned (row ∷ older) h = row_owned older row.moment row.deed (row_fits row older h) (all_owned older (rows_below row older h))

-- the element of a version has a kind
pub version_has_kind : (b : Base) (e r : ℕ) → is_base b ≡ true → is_version_of b e r ≡ true → is_some (kind_of (tree b) e) ≡ true
version_has_kind b e r h is =
    let p = of_element b e r is in subst (λ e. is_some (kind_of (tree b) e) ≡ true) p.2
    (owner_has_kind (tree b) r p.0 (all_owned b h) p.1)

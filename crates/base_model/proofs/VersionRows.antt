-- The row of a version, or of a view's own text of an element, is one that made a text of this element.
use Rattle.std.proofs.Common.{◌≡◌, refl, ap, sym, subst, ◌∙◌, ℕ, ◌<◌, Bool, true, false, cond, ◌==◌, Option, Some, None, List}
use Rattle.std.proofs.Common.{[], ◌∷◌, arith}
use Rattle.std.proofs.lemmas.Bool.Decides.{nat_tests}
use Rattle.std.specs.Prelude.{option_and_then, option_map}
use Rattle.cc_names.specs.Formed.{Plain}
use Rattle.cc_names.specs.Branches.{branch_of_version}
use Rattle.cc_names.specs.Versions.{row_of_change, branch_of_change, change_at, element_by, element_of_branch}
use Rattle.cc_names.specs.declared.changes.TreeChange.{TreeChange}
use Rattle.cc_names.specs.declared.changes.TreeChange.TheVariants.{ElementMade, BranchMade, VersionMade}
use Rattle.cc_names.specs.declared.rows.Deed.{Deed}
use Rattle.cc_names.specs.declared.rows.Deed.TheVariants as deeds
use Rattle.cc_names.specs.declared.rows.Kind.TheVariants.{Directory}
use Rattle.cc_names.specs.declared.rows.Tag.{Tag}
use Rattle.cc_names.proofs.Common.{same_number}
use Rattle.base_model.specs.Rows.{Base, size, row_at, deed_of, deed_at}
use Rattle.base_model.specs.Changes.{tree, tree_after, with_version, with_checkin}
use Rattle.base_model.specs.Closures.{is_version_of}
use Rattle.base_model.specs.Conditions.{element_of_text}
use Rattle.base_model.specs.Fits.{is_base}
use Rattle.base_model.specs.Views.{Checkout, out}
use Rattle.base_model.proofs.Below.{within, older_change}
use Rattle.base_model.proofs.OnBranches.{all_stand}
use Rattle.base_model.proofs.Origins.{newest_change, out_is_version}
use Rattle.base_model.proofs.Owned.{rows_below, same_is_same}
use Rattle.base_model.proofs.Stay.{row_stays}
use Rattle.base_model.proofs.VersionsStay.{of_element, parts_of}

-- row r made a text of element e
pub record TextAt (b : Base) (r e : ℕ) : Type 0 where
  pub deed : Deed
  pub low : r < size b
  pub made : deed_at b r ≡ Some deed
  pub of_element : element_of_text b r deed ≡ Some e

-- which element a deed made a text of hangs on the deed alone
pub element_stays : (older b : Base) (r : ℕ) (deed : Deed) → element_of_text b r deed ≡ element_of_text older r deed
element_stays older b r (deeds.Mkelem v directory name kind taken) = refl
element_stays older b r (deeds.Checkout v e origin reserved) = refl
element_stays older b r (deeds.Branch v e origin name taken) = refl
element_stays older b r (deeds.Save v e text) = refl
element_stays older b r (deeds.Checkin v e) = refl
element_stays older b r deed = refl

pub text_stays_at : (row : Plain) (older : Base) (r e : ℕ) → TextAt older r e → TextAt (row ∷ older) r e
text_stays_at row older r e h = record {
  deed = h.deed;
  low = let low = h.low in omega arith;
  made = ap deed_of (row_stays row older r h.low) ∙ h.made;
  of_element = element_stays older (row ∷ older) r h.deed ∙ h.of_element;
}

-- a version of an element is a row of the base
pub version_below : (b : Base) (e r : ℕ) → is_version_of b e r ≡ true → r < size b
version_below b e r is = let found = of_element b e r is in let parts = parts_of (tree b) r found.0 found.1 in
    (within b).numbers r parts.change parts.made

pub newest_row : (row : Plain) (older : Base) → row_at (row ∷ older) (size older) ≡ Some row
newest_row row older = ap (λ t. elim t as (λ x. Option Plain) [ true ↦ Some row | false ↦ row_at older (size older) ])
    (same_is_same (size older))

pub deed_stays : (row : Plain) (older : Base) (n : ℕ) → n < size older → deed_at (row ∷ older) n ≡ deed_at older n
deed_stays row older n below = ap deed_of (row_stays row older n below)

pub newest_deed : (row : Plain) (older : Base) → deed_at (row ∷ older) (size older) ≡ Some row.deed
newest_deed row older = ap (λ t. deed_of (elim t as (λ x. Option Plain) [ true ↦ Some row | false ↦ row_at older (size older) ]))
    (same_is_same (size older))

pub newest_text : (row : Plain) (older : Base) (e : ℕ) → element_of_text (row ∷ older) (size older) row.deed ≡ Some e
    → TextAt (row ∷ older) (size older) e
newest_text row older e h = record { deed = row.deed; low = omega arith; made = newest_deed row older; of_element = h }

-- each change but the first was made by a row that made a text of its branch's element
record AllTexts (b : Base) (changes : List TreeChange) : Type 0 where
  texts : (r : ℕ) (c : TreeChange) (e : ℕ) → change_at changes r ≡ Some c
      → element_of_branch changes (branch_of_change c) ≡ Some e → 0 < r → TextAt b r e

texts_stay : (row : Plain) (older : Base) (changes : List TreeChange) → AllTexts older changes → AllTexts (row ∷ older) changes
texts_stay row older changes h = record {
  texts = λ r c e made owner above. text_stays_at row older r e
      (h.texts r c e made owner above);
}

one_more_text : (row : Plain) (older : Base) (change : TreeChange) → row_of_change change ≡ size older
    → AllTexts older (tree older) →
    ((e : ℕ) → element_of_branch (change ∷ tree older) (branch_of_change change) ≡ Some e
    → element_of_text (row ∷ older) (size older) row.deed ≡ Some e) →
    AllTexts (row ∷ older) (change ∷ tree older)
one_more_text row older change number h own = record {
  texts = λ r c e made owner above. by r c e (row_of_change change == r) refl
      made owner above;
}
  where
    apart : (m : ℕ) → m < size older → (row_of_change change == m) ≡ false
    apart m low = grind (arith, nat_tests, number)

    by : (r : ℕ) (c : TreeChange) (e : ℕ) (t : Bool) → (row_of_change change == r) ≡ t
        → cond t (Some change) (change_at (tree older) r) ≡ Some c →
        element_of_branch (change ∷ tree older) (branch_of_change c) ≡ Some e → 0 < r → TextAt (row ∷ older) r e
    by r c e true test made owner above =
        let same : change ≡ c = cc in
        let here : size older ≡ r = sym number ∙ same_number (row_of_change change) r test in
        subst (λ r. TextAt (row ∷ older) r e) here
        (newest_text row older e (own e (subst (λ c. element_of_branch (change ∷ tree older) (branch_of_change c) ≡ Some e)
        (sym same) owner)))
    by r c e false test made owner above =
        text_stays_at row older r e
        (h.texts r c e made (sym (ap (option_and_then element_by) (older_change change (tree older) (branch_of_change c)
        (apart (branch_of_change c) ((within older).branches r c made)))) ∙ owner) above)

-- the newest change is by its own row
own_branch : (change : TreeChange) (before : List TreeChange) (e : ℕ) → row_of_change change ≡ branch_of_change change
    → element_of_branch (change ∷ before) (branch_of_change change) ≡ Some e → element_by change ≡ Some e
own_branch change before e number owner =
    sym (ap (option_and_then element_by) (newest_change change before (branch_of_change change)
    (subst (λ n. (row_of_change change == n) ≡ true) number (same_is_same (row_of_change change))))) ∙ owner

-- a version that a checkin makes is one of the checkout's element
checkin_element : (older : Base) (v : List ℕ) (f moment branch e : ℕ) (checkout : Checkout) → is_base older ≡ true
    → out older v f ≡ Some checkout → branch_of_version (tree older) checkout.origin ≡ Some branch →
    element_of_branch (VersionMade (size older) moment branch ∷ tree older) branch ≡ Some e → Some f ≡ Some e
checkin_element older v f moment branch e checkout base is on owner =
    let p = of_element older f checkout.origin (out_is_version older v f checkout base is) in
    let parts = parts_of (tree older) checkout.origin p.0 p.1 in
    let stands = (all_stand older).stands (branch_of_change parts.change) (λ v. v.row == checkout.origin) parts.version
    parts.found in
    let of_change : Some (branch_of_change parts.change) ≡ Some branch = sym (ap (option_map branch_of_change) parts.made) ∙ on in
    let same : branch_of_change parts.change ≡ branch = cc in
    let low : branch < size older = subst (λ m. m < size older) same ((within older).branches checkout.origin parts.change
    parts.made) in
    let before : element_of_branch (tree older) branch ≡ Some e = sym (ap (option_and_then element_by)
    (older_change (VersionMade (size older) moment branch) (tree older) branch (apart low))) ∙ owner in
    let own : element_of_branch (tree older) branch ≡ Some p.0.element =
    subst (λ m. element_of_branch (tree older) m ≡ Some p.0.element) (stands.branch_is ∙ same) parts.owner in
    ap Some (sym p.2) ∙ sym own ∙ before
  where
    apart : branch < size older → (size older == branch) ≡ false
    apart low = grind (arith, nat_tests)

row_texts : (older : Base) (tag : Tag) (moment : ℕ) (deed : Deed) → is_base older ≡ true → AllTexts older (tree older) →
    AllTexts (record { tag = tag; moment = moment; deed = deed } ∷ older) (tree_after older moment deed (tree older))
row_texts older tag moment (deeds.Mkelem v directory name kind taken) base h =
    one_more_text (record { tag = tag; moment = moment; deed = deeds.Mkelem v directory name kind taken }) older
    (ElementMade (size older) moment kind) refl h
    (λ e owner. own_branch (ElementMade (size older) moment kind) (tree older) e refl owner)
row_texts older tag moment (deeds.Branch v f origin name taken) base h =
    one_more_text (record { tag = tag; moment = moment; deed = deeds.Branch v f origin name taken }) older
    (BranchMade (size older) moment f origin name) refl h
    (λ e owner. own_branch (BranchMade (size older) moment f origin name) (tree older) e refl owner)
row_texts older tag moment (deeds.Checkin v f) base h = by (out older v f) refl
  where
    by_branch : (checkout : Checkout) (o : Option ℕ) → out older v f ≡ Some checkout
        → branch_of_version (tree older) checkout.origin ≡ o →
        AllTexts (record { tag = tag; moment = moment; deed = deeds.Checkin v f } ∷ older)
        (with_version (size older) moment o (tree older))
    by_branch checkout None is on = texts_stay (record { tag = tag; moment = moment; deed = deeds.Checkin v f }) older
        (tree older) h
    by_branch checkout (Some branch) is on =
        one_more_text (record { tag = tag; moment = moment; deed = deeds.Checkin v f }) older
        (VersionMade (size older) moment branch) refl h
        (λ e owner. checkin_element older v f moment branch e checkout base is on owner)

    by : (o : Option Checkout) → out older v f ≡ o → AllTexts (record { tag = tag; moment = moment; deed = deeds.Checkin v f }
        ∷ older) (with_checkin (size older) moment o (tree older))
    by None is = texts_stay (record { tag = tag; moment = moment; deed = deeds.Checkin v f }) older (tree older) h
    by (Some checkout) is = by_branch checkout (branch_of_version (tree older) checkout.origin) is refl
row_texts older tag moment deed base h = texts_stay (record { tag = tag; moment = moment; deed = deed }) older (tree older) h

all_texts : (b : Base) → is_base b ≡ true → AllTexts b (tree b)
all_texts [] base = record { texts = λ r c e made owner above. absurd (by r c (0 == r) refl made above) }
  where
    by : (r : ℕ) (c : TreeChange) (t : Bool) → (0 == r) ≡ t → cond t (Some (ElementMade 0 0 Directory)) None ≡ Some c → 0 < r → ⊥
    by r c true test made above = let zero : 0 ≡ r = same_number 0 r test in omega arith
    by r c false test made above = cc
all_texts (row ∷ older) base = row_texts older row.tag row.moment row.deed (rows_below row older base)
    (all_texts older (rows_below row older base))

-- a version of an element, row 0's aside
pub version_text : (b : Base) (e r : ℕ) → is_base b ≡ true → is_version_of b e r ≡ true → 0 < r → TextAt b r e
version_text b e r base is above =
    let p = of_element b e r is in
    let parts = parts_of (tree b) r p.0 p.1 in
    let stands = (all_stand b).stands (branch_of_change parts.change) (λ v. v.row == r) parts.version parts.found in
    let owner : element_of_branch (tree b) (branch_of_change parts.change) ≡ Some p.0.element =
    subst (λ m. element_of_branch (tree b) m ≡ Some p.0.element) stands.branch_is parts.owner in
    subst (TextAt b r) p.2 ((all_texts b base).texts r parts.change p.0.element parts.made owner above)

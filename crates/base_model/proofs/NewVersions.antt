-- The version that a branch's making or a checkin makes is one of its element.
use Rattle.std.proofs.Common.{◌≡◌, refl, ap, sym, subst, ◌∙◌, ℕ, ◌<◌, true, false, ◌==◌, Option, Some, None, List, ◌∷◌, length}
use Rattle.std.proofs.Common.{arith}
use Rattle.std.proofs.lemmas.Bool.Decides.{nat_tests}
use Rattle.std.specs.Prelude.{find, option_and_then, option_map}
use Rattle.cc_names.specs.Formed.{Plain}
use Rattle.cc_names.specs.Branches.{branch_of_version}
use Rattle.cc_names.specs.Versions.{row_of_change, branch_of_change, version_of_change, versions_on, element_by}
use Rattle.cc_names.specs.Versions.{element_of_branch}
use Rattle.cc_names.specs.declared.changes.TreeChange.{TreeChange}
use Rattle.cc_names.specs.declared.changes.TreeChange.TheVariants.{BranchMade, VersionMade}
use Rattle.cc_names.specs.declared.rows.Deed.TheVariants as deeds
use Rattle.cc_names.specs.declared.rows.Out.{Out}
use Rattle.cc_names.specs.declared.rows.Tag.{Tag}
use Rattle.base_model.specs.Rows.{Base, size}
use Rattle.base_model.specs.Changes.{tree, with_version, with_checkin}
use Rattle.base_model.specs.Closures.{is_version_of}
use Rattle.base_model.specs.Conditions.{may_check_in}
use Rattle.base_model.specs.Fits.{is_base}
use Rattle.base_model.specs.Views.{Checkout, out}
use Rattle.base_model.proofs.Below.{within, older_change}
use Rattle.base_model.proofs.OnBranches.{all_stand, branch_version}
use Rattle.base_model.proofs.Origins.{newest_change, newest_version, out_is_version}
use Rattle.base_model.proofs.Owned.{same_is_same}
use Rattle.base_model.proofs.VersionsStay.{of_element, parts_of}

-- the version of a change that a row made
new_version : (row : Plain) (b : Base) (change : TreeChange) (e : ℕ) → tree (row ∷ b) ≡ change ∷ tree b
    → row_of_change change ≡ size b → element_of_branch (change ∷ tree b) (branch_of_change change) ≡ Some e →
    is_version_of (row ∷ b) e (size b) ≡ true
new_version row b change e is number owner =
    subst (λ r. is_version_of (row ∷ b) e r ≡ true) number
    (branch_version (row ∷ b) e (branch_of_change change) (λ v. v.row == row_of_change change)
    (version_of_change change (length (versions_on (tree b) (branch_of_change change))))
    (ap (λ changes. element_of_branch changes (branch_of_change change)) is ∙ owner)
    (ap (λ changes. find (λ v. v.row == row_of_change change) (versions_on changes (branch_of_change change))) is
    ∙ newest_version (version_of_change change (length (versions_on (tree b) (branch_of_change change))))
    (versions_on (tree b) (branch_of_change change)) (row_of_change change)
    (branch_of_change change == branch_of_change change) (same_is_same (branch_of_change change))
    (same_is_same (row_of_change change))))

pub branch_makes : (tag : Tag) (moment : ℕ) (v : List ℕ) (f origin : ℕ) (name : List ℕ) (how : Out) (b : Base)
    → is_version_of (record { tag = tag; moment = moment; deed = deeds.Branch v f origin name how } ∷ b) f (size b) ≡ true
branch_makes tag moment v f origin name how b =
    new_version (record { tag = tag; moment = moment; deed = deeds.Branch v f origin name how }) b
    (BranchMade (size b) moment f origin name) f refl refl
    (ap (option_and_then element_by) (newest_change (BranchMade (size b) moment f origin name) (tree b) (size b)
    (same_is_same (size b))))

-- the branch of a checkout's origin is one of the checkout's element
record OriginBranch (b : Base) (e : ℕ) (checkout : Checkout) : Type 0 where
  branch : ℕ
  is : branch_of_version (tree b) checkout.origin ≡ Some branch
  low : branch < size b
  owner : element_of_branch (tree b) branch ≡ Some e

origin_branch : (b : Base) (v : List ℕ) (e : ℕ) (checkout : Checkout) → is_base b ≡ true → out b v e ≡ Some checkout
    → OriginBranch b e checkout
origin_branch b v e checkout base is =
    let p = of_element b e checkout.origin (out_is_version b v e checkout base is) in
    let parts = parts_of (tree b) checkout.origin p.0 p.1 in
    let stands = (all_stand b).stands (branch_of_change parts.change) (λ v. v.row == checkout.origin) parts.version parts.found in
    record {
      branch = branch_of_change parts.change;
      is = ap (option_map branch_of_change) parts.made;
      low = (within b).branches checkout.origin parts.change parts.made;
      owner = ap (element_of_branch (tree b)) (sym stands.branch_is) ∙ parts.owner ∙ ap Some p.2;
    }

pub checkin_makes : (tag : Tag) (moment : ℕ) (v : List ℕ) (e : ℕ) (b : Base) → is_base b ≡ true
    → may_check_in b v (out b v e) ≡ true → is_version_of (record { tag = tag; moment = moment; deed = deeds.Checkin v e } ∷ b) e
    (size b) ≡ true
checkin_makes tag moment v e b base fit = by (out b v e) refl fit
  where
    by : (o : Option Checkout) → out b v e ≡ o → may_check_in b v o ≡ true
        → is_version_of (record { tag = tag; moment = moment; deed = deeds.Checkin v e } ∷ b) e (size b) ≡ true
    by None is h = absurd (cc)
    by (Some checkout) is h =
        let on = origin_branch b v e checkout base is in
        let low = on.low in
        let apart : (size b == on.branch) ≡ false = grind (arith, nat_tests) in
        new_version (record { tag = tag; moment = moment; deed = deeds.Checkin v e }) b (VersionMade (size b) moment on.branch) e
        (ap (λ o. with_checkin (size b) moment o (tree b)) is ∙ ap (λ o. with_version (size b) moment o (tree b)) on.is) refl
        (ap (option_and_then element_by) (older_change (VersionMade (size b) moment on.branch) (tree b) on.branch apart)
        ∙ on.owner)

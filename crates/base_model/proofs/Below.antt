-- What a base names lies below its size.
use Rattle.std.proofs.Common.{◌≡◌, refl, ap, subst, ◌∙◌, ℕ, suc, ◌<◌, Bool, true, false, cond, ◌==◌, Option, Some, None, List}
use Rattle.std.proofs.Common.{[], ◌∷◌, arith}
use Rattle.std.proofs.lemmas.Bool.Decides.{nat_tests}
use Rattle.std.specs.Prelude.{option_map}
use Rattle.cc_names.specs.Last.{Effect, Keeps, Ends, Sets, value_after, last}
use Rattle.cc_names.specs.Branches.{branch_of_version}
use Rattle.cc_names.specs.Versions.{row_of_change, branch_of_change, change_at}
use Rattle.cc_names.specs.declared.rows.Kind.TheVariants.{Directory}
use Rattle.cc_names.specs.declared.changes.TreeChange.{TreeChange}
use Rattle.cc_names.specs.declared.changes.TreeChange.TheVariants.{ElementMade, BranchMade, VersionMade}
use Rattle.cc_names.specs.declared.rows.Deed.{Deed}
use Rattle.cc_names.specs.declared.rows.Deed.TheVariants as deeds
use Rattle.base_model.specs.Rows.{Base, size}
use Rattle.base_model.specs.Changes.{tree, tree_after, with_version, with_checkin}
use Rattle.base_model.specs.Views.{Checkout, out}

-- what holds where it is set, and stays when rows are added, holds of what was set last
pub last_holds : {X A : Type 0} (P : List X → A → Type 0) (effect : List X → X → Effect A) →
    ((x : X) (older : List X) (a : A) → P older a → P (x ∷ older) a) →
    ((x : X) (older : List X) (a : A) → effect older x ≡ Sets a → P (x ∷ older) a) →
    (xs : List X) (a : A) → last effect xs ≡ Some a → P xs a
last_holds P effect stays sets [] a e = absurd (cc)
last_holds {X} {A} P effect stays sets (x ∷ older) a e = by (effect older x) refl (last_holds P effect stays sets older a) e
  where
    by : (f : Effect A) → effect older x ≡ f → (last effect older ≡ Some a → P older a)
        → value_after f (last effect older) ≡ Some a → P (x ∷ older) a
    by Keeps is before e = stays x older a (before e)
    by Ends is before e = absurd (cc)
    by (Sets b) is before e = let same : b ≡ a = cc in sets x older a (is ∙ ap Sets same)

-- a change of the trees is one with the number that it was found by
pub found_change : (changes : List TreeChange) (r : ℕ) (c : TreeChange) → change_at changes r ≡ Some c → row_of_change c ≡ r
found_change [] r c e = absurd (cc)
found_change (change ∷ older) r c e = elim (row_of_change change == r) as (λ (x : Bool). (row_of_change change == r) ≡ x
    → cond x (Some change) (change_at older r) ≡ Some c → row_of_change c ≡ r) [
      | true ↦ λ test found. let same : change ≡ c = cc in let number : row_of_change change ≡ r = grind (arith, nat_tests) in cc
      | false ↦ λ test found. found_change older r c found
    ] refl e

-- a change after a base's newest one is found as before
pub older_change : (change : TreeChange) (before : List TreeChange) (r : ℕ) → (row_of_change change == r) ≡ false
    → change_at (change ∷ before) r ≡ change_at before r
older_change change before r e = ap (λ b. cond b (Some change) (change_at before r)) e

-- the same of any changes below a number
pub record Within (n : ℕ) (changes : List TreeChange) : Type 0 where
  pub numbers : (r : ℕ) (c : TreeChange) → change_at changes r ≡ Some c → r < n
  pub branches : (r : ℕ) (c : TreeChange) → change_at changes r ≡ Some c → branch_of_change c < n

one_more_within : (n : ℕ) (change : TreeChange) (before : List TreeChange) → row_of_change change ≡ n
    → branch_of_change change < suc n → Within n before → Within (suc n) (change ∷ before)
one_more_within n change before number branch h = record {
  numbers = λ r c e. (by r c (row_of_change change == r) refl e).0;
  branches = λ r c e. (by r c (row_of_change change == r) refl e).1;
}
  where
    by : (r : ℕ) (c : TreeChange) (x : Bool) → (row_of_change change == r) ≡ x
        → cond x (Some change) (change_at before r) ≡ Some c → (r < suc n) × (branch_of_change c < suc n)
    by r c true test e = let same : change ≡ c = cc in (
      grind (arith, nat_tests),
      subst (λ c. branch_of_change c < suc n) same branch,
    )
    by r c false test e = let low = h.numbers r c e in let branch_low = h.branches r c e in (omega arith, omega arith)

none_more_within : (n : ℕ) (before : List TreeChange) → Within n before → Within (suc n) before
none_more_within n before h = record {
  numbers = λ r c e. let low = h.numbers r c e in omega arith;
  branches = λ r c e. let low = h.branches r c e in omega arith;
}

-- the branch of a version is that of the change that made it
branch_within : (n : ℕ) (changes : List TreeChange) (r branch : ℕ) → Within n changes → branch_of_version changes r ≡ Some branch
    → branch < n
branch_within n changes r branch h e = by (change_at changes r) refl e
  where
    by : (o : Option TreeChange) → change_at changes r ≡ o → option_map branch_of_change o ≡ Some branch → branch < n
    by None is e = absurd (cc)
    by (Some c) is e = let same : branch_of_change c ≡ branch = cc in subst (λ m. m < n) same (h.branches r c is)

version_within : (n moment : ℕ) (branch : Option ℕ) (before : List TreeChange) → ((m : ℕ) → branch ≡ Some m → m < n)
    → Within n before → Within (suc n) (with_version n moment branch before)
version_within n moment None before low h = none_more_within n before h
version_within n moment (Some branch) before low h = let below = low branch refl in
    one_more_within n (VersionMade n moment branch) before refl (omega arith) h

checkin_within : (n moment : ℕ) (checkout : Option Checkout) (before : List TreeChange) → Within n before
    → Within (suc n) (with_checkin n moment checkout before)
checkin_within n moment None before h = none_more_within n before h
checkin_within n moment (Some checkout) before h =
    version_within n moment (branch_of_version before checkout.origin) before
    (λ m e. branch_within n before checkout.origin m h e) h

row_within : (older : Base) (moment : ℕ) (deed : Deed) (before : List TreeChange) → Within (size older) before
    → Within (suc (size older)) (tree_after older moment deed before)
row_within older moment (deeds.Mkelem v directory name kind out) before h =
    one_more_within (size older) (ElementMade (size older) moment kind) before refl (omega arith) h
row_within older moment (deeds.Branch v e origin name out) before h = one_more_within (size older)
    (BranchMade (size older) moment e origin name) before refl (omega arith) h
row_within older moment (deeds.Checkin v e) before h = checkin_within (size older) moment (out older v e) before h
row_within older moment deed before h = none_more_within (size older) before h

pub within : (b : Base) → Within (size b) (tree b)
within [] = one_more_within 0 (ElementMade 0 0 Directory) [] refl (omega arith)
    (record { numbers = λ r c e. absurd (cc); branches = λ r c e. absurd (cc) })
within (row ∷ older) = row_within older row.moment row.deed (tree older) (within older)

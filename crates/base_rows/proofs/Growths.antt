-- What rows add to the trees of versions, one after the other.
use Rattle.std.proofs.Common.{◌≡◌, ℕ, suc, ◌==◌, Bool, true, false, cond, Option, Some, None, List, [], ◌∷◌, map, refl, subst}
use Rattle.std.proofs.Common.{sym, arith}
use Rattle.std.specs.Prelude.{IsSome, option_map, find, length}
use Rattle.cc_names.specs.Branches.{branch_of_version}
use Rattle.cc_names.specs.Falling.{IsAbove}
use Rattle.cc_names.specs.Formed.{Plain}
use Rattle.cc_names.specs.Versions.{Version, row_of_change, branch_of_change, change_at, is_before, latest, put_if}
use Rattle.cc_names.specs.Versions.{row_of_version, version_of_change, versions_on}
use Rattle.cc_names.specs.declared.changes.TreeChange.{TreeChange}
use Rattle.cc_names.specs.declared.changes.TreeChange.TheVariants.{VersionMade}
use Rattle.cc_names.specs.declared.rows.Deed.{Deed}
use Rattle.cc_names.specs.declared.rows.Deed.TheVariants as deeds
use Rattle.base_model.specs.Rows.{Base, size}
use Rattle.base_model.specs.Changes.{tree, tree_after, with_version, with_checkin}
use Rattle.base_model.specs.Views.{Checkout, out}
use Rattle.base_model.proofs.Owned.{same_is_same}
use Rattle.base_model.proofs.TreesStay.{Adds, Nothing, One, adds_row}
use Rattle.base_rows.specs.Growing as growing
use Rattle.base_rows.specs.Growing.{tree_change, with_change}

version_by_change : (n moment : ℕ) (changes : List TreeChange) (branch : Option ℕ)
    → with_version n moment branch changes ≡ with_change (option_map (VersionMade n moment) branch) changes
version_by_change n moment changes None = refl
version_by_change n moment changes (Some branch) = refl

checkin_by_change : (n moment : ℕ) (changes : List TreeChange) (checkout : Option Checkout)
    → with_checkin n moment checkout changes ≡ with_change (growing.version_made n moment changes checkout) changes
checkin_by_change n moment changes None = refl
checkin_by_change n moment changes (Some checkout) = version_by_change n moment changes
    (branch_of_version changes checkout.origin)

deed_by_change : (older : Base) (moment : ℕ) (deed : Deed) → tree_after older moment deed (tree older)
    ≡ with_change (tree_change older moment deed) (tree older)
deed_by_change older moment (deeds.Mkelem v directory name kind taken) = refl
deed_by_change older moment (deeds.Branch v e origin name taken) = refl
deed_by_change older moment (deeds.Checkin v e) = checkin_by_change (size older) moment (tree older) (out older v e)
deed_by_change older moment deed = refl

-- a row adds one change to the trees, or none
pub tree_by_change : (row : Plain) (older : Base) → tree (row ∷ older)
    ≡ with_change (tree_change older row.moment row.deed) (tree older)
tree_by_change row older = deed_by_change older row.moment row.deed

pub above_next : (n : ℕ) (rows : List ℕ) → IsAbove n rows → IsAbove (suc n) rows
above_next n [] above = tt
above_next n (row ∷ rows) above = (omega (arith, above.0), above_next n rows above.1)

above_added : (n : ℕ) (before after : List TreeChange) → Adds n before after → IsAbove n (map row_of_change before)
    → IsAbove (suc n) (map row_of_change after)
above_added n before after (Nothing e) above = subst (λ (changes : List TreeChange). IsAbove (suc n) (map row_of_change changes))
    (sym e) (above_next n (map row_of_change before) above)
above_added n before after (One change number e) above =
    subst (λ (changes : List TreeChange). IsAbove (suc n) (map row_of_change changes)) (sym e) (
      omega (arith, number),
      above_next n (map row_of_change before) above,
    )

-- the next row is above all that made the trees
pub above_tree : (b : Base) → IsAbove (size b) (map row_of_change (tree b))
above_tree [] = (omega arith, tt)
above_tree (row ∷ older) = above_added (size older) (tree older) (tree (row ∷ older))
    (adds_row older row.moment row.deed (tree older)) (above_tree older)

-- the newest of some versions
abbrev first_row : List Version → Option ℕ
first_row versions = option_map row_of_version (find (λ v. is_before None v.moment) versions)

there_still : (is : Bool) (v : Version) (versions : List Version) → IsSome (first_row versions)
    → IsSome (first_row (put_if is v versions))
there_still true v versions there = refl
there_still false v versions there = there

there_now : (is : Bool) (v : Version) (versions : List Version) → is ≡ true → IsSome (first_row (put_if is v versions))
there_now true v versions is = refl
there_now false v versions is = absurd (cc)

-- a version stands on a branch that there is
pub rooted : (changes : List TreeChange) (r branch : ℕ) → branch_of_version changes r ≡ Some branch
    → IsSome (latest changes branch None)
rooted [] r branch e = absurd (cc)
rooted (change ∷ older) r branch e =
    elim (row_of_change change == r) as (λ (is : Bool). option_map branch_of_change (cond is (Some change) (change_at older r))
    ≡ Some branch → IsSome (latest (change ∷ older) branch None)) [
      | true ↦ λ here.
          let same : branch_of_change change ≡ branch = cc in
          subst (λ b. IsSome (latest (change ∷ older) b None)) same
          (there_now (branch_of_change change == branch_of_change change)
          (version_of_change change (length (versions_on older (branch_of_change change))))
          (versions_on older (branch_of_change change)) (same_is_same (branch_of_change change)))
      | false ↦ λ behind.
          there_still (branch_of_change change == branch) (version_of_change change (length (versions_on older branch)))
          (versions_on older branch) (rooted older r branch behind)
    ] e

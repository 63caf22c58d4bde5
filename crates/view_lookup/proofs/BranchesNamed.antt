-- The row that made the element's branch of a name is the branch that the trees have by it.
use Rattle.std.proofs.Common.{◌≡◌, ℕ, ◌==◌, ◌&&◌, Bool, true, false, cond, List, [], ◌∷◌, Option, Some, None, bytes_eq, refl}
use Rattle.std.proofs.Common.{sym, ◌∙◌}
use Rattle.std.specs.Prelude.{option_map, find}
use Rattle.cc_names.specs.Branches.{branch_named, branch_of_version, makes_branch}
use Rattle.cc_names.specs.Last.{Sets, value_after, only_if}
use Rattle.cc_names.specs.Versions.{row_of_change}
use Rattle.cc_names.specs.declared.changes.TreeChange.{TreeChange}
use Rattle.cc_names.specs.declared.changes.TreeChange.TheVariants.{BranchMade}
use Rattle.cc_names.specs.declared.rows.Deed.{Deed}
use Rattle.cc_names.specs.declared.rows.Deed.TheVariants as deeds
use Rattle.base_model.specs.Changes.{tree, tree_after, with_checkin, with_version}
use Rattle.base_model.specs.Rows.{Base, size}
use Rattle.base_model.specs.Views.{Checkout, out}
use Rattle.base_rows.specs.Effects.{branch_named_effect}
use Rattle.base_rows.specs.LookUps.{last_of}

-- a branch that is made is found, or what was found before
one_more : (is : Bool) (made : TreeChange) (before : Option ℕ) (older : Option TreeChange)
    → before ≡ option_map row_of_change older
    → value_after (only_if is (Sets (row_of_change made))) before ≡ option_map row_of_change (cond is (Some made) older)
one_more true made before older same = refl
one_more false made before older same = same

module _ (e : ℕ) (name : List ℕ) where
  -- a version is no branch
  no_branch : (older : Base) (moment : ℕ) (branch : Option ℕ) → branch_named
      (with_version (size older) moment branch (tree older)) e name ≡ branch_named (tree older) e name
  no_branch older moment None = refl
  no_branch older moment (Some branch) = refl

  checked_in : (older : Base) (moment : ℕ) (taken : Option Checkout) → branch_named
      (with_checkin (size older) moment taken (tree older)) e name ≡ branch_named (tree older) e name
  checked_in older moment None = refl
  checked_in older moment (Some checkout) = no_branch older moment (branch_of_version (tree older) checkout.origin)

  pub branch_by_last : (b : Base) → last_of (branch_named_effect e name) b ≡ branch_named (tree b) e name
  branch_by_last [] = refl
  branch_by_last (row ∷ older) = by row.deed (branch_by_last older)
    where
      by : (deed : Deed) → last_of (branch_named_effect e name) older ≡ branch_named (tree older) e name →
          value_after (branch_named_effect e name older deed) (last_of (branch_named_effect e name) older)
          ≡ branch_named (tree_after older row.moment deed (tree older)) e name
      by (deeds.Branch v f origin own taken) rest =
          one_more ((e == f) && bytes_eq name own) (BranchMade (size older) row.moment f origin own)
          (last_of (branch_named_effect e name) older) (find (makes_branch e name) (tree older)) rest
      by (deeds.Mkelem v directory kept kind taken) rest = rest
      by (deeds.Checkin v f) rest = rest ∙ sym (checked_in older row.moment (out older v f))
      by deed rest = rest

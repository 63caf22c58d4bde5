-- The rows that made the branches that leave a version are the branches that the trees have there.
use Rattle.std.proofs.Common.{◌≡◌, ℕ, ◌==◌, Bool, true, false, List, [], ◌∷◌, Option, Some, None, refl, ap, sym, ◌∙◌}
use Rattle.std.specs.Prelude.{is_some}
use Rattle.cc_names.specs.Branches.{branch_of_version}
use Rattle.cc_names.specs.Last.{Sets, only_if}
use Rattle.cc_names.specs.Versions.{put_if}
use Rattle.cc_names.specs.declared.rows.Deed.{Deed}
use Rattle.cc_names.specs.declared.rows.Deed.TheVariants as deeds
use Rattle.base_model.specs.Changes.{tree, tree_after, with_checkin, with_version}
use Rattle.base_model.specs.Rows.{Base, size, only_where}
use Rattle.base_model.specs.Views.{Checkout, out}
use Rattle.legal_history.specs.Queries.ElementTexts.{branches_leaving, with_some}
use Rattle.base_rows.specs.Effects.{leaving_effect}
use Rattle.base_rows.specs.LookUps.{update_by_row}
use Rattle.base_rows.specs.Walks.{updating_rows}

-- a row that makes a branch is reported where it leaves the version
one_leaving : (test : Bool) (n : ℕ) (rest : List ℕ) → put_if (is_some (update_by_row n (only_if test (Sets n)))) n rest
    ≡ with_some (only_where test (Some n)) rest
one_leaving true n rest = refl
one_leaving false n rest = refl

module _ (version : ℕ) where
  -- a version leaves none
  no_branch : (older : Base) (moment : ℕ) (branch : Option ℕ) → branches_leaving version
      (with_version (size older) moment branch (tree older)) ≡ branches_leaving version (tree older)
  no_branch older moment None = refl
  no_branch older moment (Some branch) = refl

  checked_in : (older : Base) (moment : ℕ) (taken : Option Checkout) → branches_leaving version
      (with_checkin (size older) moment taken (tree older)) ≡ branches_leaving version (tree older)
  checked_in older moment None = refl
  checked_in older moment (Some checkout) = no_branch older moment (branch_of_version (tree older) checkout.origin)

  pub leaving_rows : (b : Base) → updating_rows (leaving_effect version) b ≡ branches_leaving version (tree b)
  leaving_rows [] = refl
  leaving_rows (row ∷ older) = by row.deed (leaving_rows older)
    where
      by : (deed : Deed) → updating_rows (leaving_effect version) older ≡ branches_leaving version (tree older) →
          put_if (is_some (update_by_row (size older) (leaving_effect version older deed))) (size older)
          (updating_rows (leaving_effect version) older) ≡ branches_leaving version
          (tree_after older row.moment deed (tree older))
      by (deeds.Branch v e origin name out) rest = one_leaving (origin == version) (size older)
          (updating_rows (leaving_effect version) older) ∙ ap (with_some (only_where (origin == version) (Some (size older))))
          rest
      by (deeds.Mkelem v directory name kind out) rest = rest
      by (deeds.Checkin v e) rest = rest ∙ sym (checked_in older row.moment (out older v e))
      by deed rest = rest

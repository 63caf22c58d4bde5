-- What a look-up of a branch or a change gives.
use Rattle.std.proofs.Common.{◌≡◌, ℕ, Bool, true, false, cond, eqb, ltb, List, [], ◌∷◌, map, reverse, Option, Some, None, IfSome}
use Rattle.std.proofs.Common.{refl, sym, ap, ◌∙◌}
use Rattle.std.specs.Prelude.{filter, find, option_map, option_copied}
use denote.Ref.{Bor}
use Rattle.cc_names.specs.Versions.{row_of_change, change_at, of_first_rows, versions_on}
use Rattle.cc_names.specs.Falling.{Falls}
use Rattle.version_tree.specs.Branches.{row_of_later, versions_by}
use Rattle.version_tree.specs.TreeFields.{change_alone, changes_of, row_of_made, branch_at, InStep}
use Rattle.version_tree.specs.declared.changes.Made.{Made}
use Rattle.version_tree.specs.declared.branches.Branch.{Branch}
use Rattle.version_tree.proofs.FirstRows.{versions_of_first_rows, versions_fall, later_falls}
use Rattle.version_tree.proofs.Steps.{rows_of_made}

-- what holds of a copy holds of what a reference points to
pub if_copied : {X : Type 0} (P : X → Type 0) (o : Option (Bor X)) → IfSome (option_copied o) P → IfSome o (λ x. P x.now)
if_copied P None holds = tt
if_copied P (Some x) holds = holds

module _ (made : List Made) (branches : List Branch) (step : InStep made branches) where
  -- the rows of the changes fall
  pub changes_fall : Falls (map row_of_change (changes_of made))
  changes_fall = rw (rows_of_made made) step.falls

  module _ (b : ℕ) (found : Option Branch) (is : found ≡ branch_at branches b) where
    -- the versions of the branch that was found
    pub versions_found : versions_by found ≡ versions_on (changes_of made) b
    versions_found = ap versions_by is ∙ sym (step.kept b)

    -- those that the first rows made
    pub versions_found_of_first_rows : (rows : ℕ) → filter (λ v. ltb v.row rows) (versions_by found)
        ≡ versions_on (of_first_rows rows (changes_of made)) b
    versions_found_of_first_rows rows = ap (filter (λ v. ltb v.row rows)) versions_found
        ∙ versions_of_first_rows rows (changes_of made) b changes_fall

  -- the versions after version 0 are in order
  pub found_falls : (b : ℕ) (found : Option Branch) → found ≡ branch_at branches b
      → IfSome found (λ branch. Falls (map row_of_later (reverse branch.later.items)))
  found_falls b None is = tt
  found_falls b (Some branch) is =
      later_falls branch.row branch.moment (reverse branch.later.items)
      (rw (versions_found b (Some branch) is) (versions_fall (changes_of made) b changes_fall))

-- a change is found by its row
pub change_found : (made : List Made) (row : ℕ) → change_at (changes_of made) row
    ≡ option_map change_alone (find (λ m. eqb (row_of_made m) row) made)
change_found [] row = refl
change_found (m ∷ made) row = at (eqb (row_of_made m) row) (change_found made row)
  where
    at : (t : Bool) → change_at (changes_of made) row ≡ option_map change_alone (find (λ k. eqb (row_of_made k) row) made)
        → cond t (Some m.change) (change_at (changes_of made) row) ≡ option_map change_alone
        (cond t (Some m) (find (λ k. eqb (row_of_made k) row) made))
    at true rest = refl
    at false rest = rest

-- nothing is there
pub nothing_in_step : InStep [] []
nothing_in_step = record {
  falls = tt;
  branches_fall = tt;
  branches_made = λ row above. tt;
  kept = λ b. refl;
}

-- The names that lead to a branch: those of the branch that it leaves, and its own after them.
use Rattle.std.proofs.Common.{◌≡◌, refl, ap, ap₂, sym, ◌∙◌, ℕ, ◌<◌, ◌≤◌, ◌==◌, Bool, true, false, Option, Some, None, List, []}
use Rattle.std.proofs.Common.{◌∷◌, ◌++◌, arith}
use Rattle.std.specs.Prelude.{option_and_then}
use Rattle.std.proofs.lemmas.Bool.Decides.{nat_tests}
use Rattle.cc_names.specs.Branches.{branch_of_version, name_of_branch, names_of_branch, origin_of}
use Rattle.cc_names.specs.Formed.{Plain}
use Rattle.cc_names.specs.Versions.{row_of_change}
use Rattle.cc_names.specs.declared.changes.TreeChange.{TreeChange}
use Rattle.cc_names.specs.declared.changes.TreeChange.TheVariants.{ElementMade, BranchMade, VersionMade}
use Rattle.view_lookup.specs.Naming.{names_above}
use Rattle.base_model.specs.Changes.{tree}
use Rattle.base_model.specs.Rows.{Base, size, first_rows}
use Rattle.base_model.proofs.Stay.{first_rows_stay, all_rows}
use Rattle.base_model.proofs.TreesStay.{Adds, Nothing, One, adds_row}

-- a branch with a name leaves the branch of its origin, among the rows below it
pub record Leaves (b : Base) (n : ℕ) (name : List ℕ) : Type 0 where
  pub behind : 1 ≤ n
  pub below : n < size b
  pub names : names_of_branch (tree b) n ≡ names_above (tree (first_rows n b))
      (option_and_then (branch_of_version (tree (first_rows n b))) (origin_of (tree b) n)) ++ name ∷ []

-- so it does with one more row that made no change of it
stays : (row : Plain) (older : Base) (n : ℕ) (name : List ℕ) → names_of_branch (tree (row ∷ older)) n
    ≡ names_of_branch (tree older) n →
    origin_of (tree (row ∷ older)) n ≡ origin_of (tree older) n → Leaves older n name → Leaves (row ∷ older) n name
stays row older n name names origin l =
    let lower : n < size older = l.below in
    let rows : first_rows n older ≡ first_rows n (row ∷ older) = sym (first_rows_stay row older n (omega (arith, lower))) in
    record {
      behind = l.behind;
      below = omega (arith, lower);
      names = names ∙ l.names
          ∙ ap₂ (λ (b : Base) (o : Option ℕ). names_above (tree b) (option_and_then (branch_of_version (tree b)) o) ++ name ∷ [])
          rows (sym origin);
    }

-- the row that makes a branch
makes : (row : Plain) (older : Base) (moment e origin : ℕ) (name : List ℕ)
    → tree (row ∷ older) ≡ BranchMade (size older) moment e origin name ∷ tree older → Leaves (row ∷ older) (size older) name
makes row older moment e origin name made =
    let rows : older ≡ first_rows (size older) (row ∷ older) = sym (first_rows_stay row older (size older) (omega arith)
    ∙ all_rows older (size older) (omega arith)) in
    let from : origin_of (tree (row ∷ older)) (size older) ≡ Some origin = grind (arith, nat_tests, made) in
    let names : names_of_branch (tree (row ∷ older)) (size older) ≡ names_above (tree older)
    (branch_of_version (tree older) origin) ++ name ∷ [] = grind (arith, nat_tests, made) in
    record {
      behind = omega arith;
      below = omega arith;
      names = names
          ∙ ap₂ (λ (b : Base) (o : Option ℕ). names_above (tree b) (option_and_then (branch_of_version (tree b)) o) ++ name ∷ [])
          rows (sym from);
    }

-- a change of another row
others : (change : TreeChange) (row : Plain) (older : Base) (n : ℕ) (name : List ℕ) → tree (row ∷ older) ≡ change ∷ tree older
    → (row_of_change change == n) ≡ false →
    (name_of_branch (tree older) n ≡ Some name → Leaves older n name) → name_of_branch (tree (row ∷ older)) n ≡ Some name
    → Leaves (row ∷ older) n name
others change row older n name made test before h =
    stays row older n name (grind (arith, made, test)) (grind (arith, made, test)) (before (grind (arith, made, test, h)))

by_change : (change : TreeChange) (row : Plain) (older : Base) (n : ℕ) (name : List ℕ) → row_of_change change ≡ size older
    → tree (row ∷ older) ≡ change ∷ tree older →
    (name_of_branch (tree older) n ≡ Some name → Leaves older n name) → name_of_branch (tree (row ∷ older)) n ≡ Some name
    → Leaves (row ∷ older) n name
by_change change row older n name r made before h = by (row_of_change change == n) refl
  where
    here : (it : TreeChange) → change ≡ it → (row_of_change change == n) ≡ true → Leaves (row ∷ older) n name
    here (ElementMade m moment kind) is test = absurd (grind (arith, made, is, test, h))
    here (BranchMade m moment e origin own) is test =
        let at : n ≡ size older = grind (arith, nat_tests, is, test, r) in
        let own_name : own ≡ name = grind (arith, made, is, test, h) in
        let it : tree (row ∷ older) ≡ BranchMade (size older) moment e origin own ∷ tree older = grind (arith, made, is, r) in
        grind (arith, at, own_name, makes row older moment e origin own it)
    here (VersionMade m moment branch) is test = absurd (grind (arith, made, is, test, h))

    by : (is : Bool) → (row_of_change change == n) ≡ is → Leaves (row ∷ older) n name
    by true test = here change refl test
    by false test = others change row older n name made test before h

by_row : (row : Plain) (older : Base) (n : ℕ) (name : List ℕ) → Adds (size older) (tree older) (tree (row ∷ older)) →
    (name_of_branch (tree older) n ≡ Some name → Leaves older n name) → name_of_branch (tree (row ∷ older)) n ≡ Some name
    → Leaves (row ∷ older) n name
by_row row older n name (Nothing e) before h =
    stays row older n name (ap (λ cs. names_of_branch cs n) e) (ap (λ cs. origin_of cs n) e)
    (before (ap (λ cs. name_of_branch cs n) (sym e) ∙ h))
by_row row older n name (One change r e) before h = by_change change row older n name r e before h

pub branch_leaves : (b : Base) (n : ℕ) (name : List ℕ) → name_of_branch (tree b) n ≡ Some name → Leaves b n name
branch_leaves [] n name h = absurd (none (0 == n) h)
  where
    none : (is : Bool) → name_of_branch (tree []) n ≡ Some name → ⊥
    none is h = grind (arith, nat_tests, h)
branch_leaves (row ∷ older) n name h =
    by_row row older n name (adds_row older row.moment row.deed (tree older)) (branch_leaves older n name) h

-- a branch without a name of its own has none after `main`
unnamed_by : (row : Plain) (older : Base) (n : ℕ) → Adds (size older) (tree older) (tree (row ∷ older)) →
    (name_of_branch (tree older) n ≡ None → names_of_branch (tree older) n ≡ []) → name_of_branch (tree (row ∷ older)) n ≡ None
    → names_of_branch (tree (row ∷ older)) n ≡ []
unnamed_by row older n (Nothing e) before h = ap (λ cs. names_of_branch cs n) e
    ∙ before (ap (λ cs. name_of_branch cs n) (sym e) ∙ h)
unnamed_by row older n (One change r e) before h = by change refl (row_of_change change == n) refl
  where
    by : (it : TreeChange) → change ≡ it → (is : Bool) → (row_of_change change == n) ≡ is
        → names_of_branch (tree (row ∷ older)) n ≡ []
    by it is false test = grind (arith, e, test, before, h)
    by (ElementMade m moment kind) is true test = grind (arith, e, is, test)
    by (BranchMade m moment el origin own) is true test = absurd (grind (arith, e, is, test, h))
    by (VersionMade m moment branch) is true test = grind (arith, e, is, test)

pub unnamed : (b : Base) (n : ℕ) → name_of_branch (tree b) n ≡ None → names_of_branch (tree b) n ≡ []
unnamed [] n h = grind (arith, nat_tests)
unnamed (row ∷ older) n h = unnamed_by row older n (adds_row older row.moment row.deed (tree older)) (unnamed older n) h

-- The changes of trees and labels that the first rows of a base made are those of these rows alone.
use Rattle.std.proofs.Common.{◌≡◌, refl, ap, sym, ◌∙◌, ℕ, ◌<◌, ◌≤◌, Bool, true, false, Option, Some, None, List, [], ◌∷◌, arith}
use Rattle.std.proofs.Common.{nat_lt}
use Rattle.std.proofs.lemmas.Bool.{ltb-true, ltb-false}
use Rattle.std.proofs.lemmas.Bool.Decides.{nat_tests}
use Rattle.cc_names.specs.Branches.{branch_of_version}
use Rattle.cc_names.specs.Labels.{labels_of_first_rows}
use Rattle.cc_names.specs.Versions.{of_first_rows, row_of_change}
use Rattle.cc_names.specs.declared.changes.LabelChange.{LabelChange}
use Rattle.cc_names.specs.declared.changes.LabelChange.TheVariants.{Put}
use Rattle.cc_names.specs.declared.changes.TreeChange.{TreeChange}
use Rattle.cc_names.specs.declared.changes.TreeChange.TheVariants.{ElementMade, BranchMade, VersionMade}
use Rattle.cc_names.specs.declared.rows.Deed.{Deed}
use Rattle.cc_names.specs.declared.rows.Deed.TheVariants as deeds
use Rattle.cc_names.specs.declared.rows.Placed.{Placed}
use Rattle.base_model.specs.Rows.{Base, size, first_rows}
use Rattle.base_model.specs.Changes.{tree, tree_after, with_version, with_checkin, labels, labels_after, all_placed}
use Rattle.base_model.specs.Views.{Checkout, out}
use Rattle.base_model.proofs.Stay.{first_rows_stay, all_rows}

-- a row adds no change, or one with its own number
pub data Adds (n : ℕ) (before after : List TreeChange) : Type 0 where
  Nothing : after ≡ before → Adds n before after
  One : (change : TreeChange) → row_of_change change ≡ n → after ≡ change ∷ before → Adds n before after

adds_version : (n moment : ℕ) (branch : Option ℕ) (changes : List TreeChange)
    → Adds n changes (with_version n moment branch changes)
adds_version n moment None changes = Nothing refl
adds_version n moment (Some branch) changes = One (VersionMade n moment branch) refl refl

adds_checkin : (n moment : ℕ) (checkout : Option Checkout) (changes : List TreeChange)
    → Adds n changes (with_checkin n moment checkout changes)
adds_checkin n moment None changes = Nothing refl
adds_checkin n moment (Some checkout) changes = adds_version n moment (branch_of_version changes checkout.origin) changes

pub adds_row : (older : Base) (moment : ℕ) (deed : Deed) (changes : List TreeChange)
    → Adds (size older) changes (tree_after older moment deed changes)
adds_row older moment (deeds.Mkelem v directory name kind out) changes = One (ElementMade (size older) moment kind) refl refl
adds_row older moment (deeds.Branch v e origin name out) changes = One (BranchMade (size older) moment e origin name) refl refl
adds_row older moment (deeds.Checkin v e) changes = adds_checkin (size older) moment (out older v e) changes
adds_row older moment deed changes = Nothing refl

-- a change by a row at or after the limit is left out, one before it is kept
left_out : (t n : ℕ) (before after : List TreeChange) → t ≤ n → Adds n before after
    → of_first_rows t after ≡ of_first_rows t before
left_out t n before after h (Nothing e) = ap (of_first_rows t) e
left_out t n before after h (One change r e) = grind (arith, nat_tests, r, e)

kept : (t n : ℕ) (before after : List TreeChange) → n < t → of_first_rows t before ≡ before → Adds n before after
    → of_first_rows t after ≡ after
kept t n before after h same (Nothing e) = rw e same
kept t n before after h same (One change r e) = grind (arith, nat_tests, r, e, same)

-- no change of a base is by a row after its last
pub tree_below : (b : Base) (t : ℕ) → size b ≤ t → of_first_rows t (tree b) ≡ tree b
tree_below [] t h = grind (arith, nat_tests)
tree_below (row ∷ older) t h =
    kept t (size older) (tree older) (tree (row ∷ older)) (omega arith) (tree_below older t (omega arith))
    (adds_row older row.moment row.deed (tree older))

-- the changes of the trees by the first rows
pub tree_of_first_rows : (b : Base) (t : ℕ) → 0 < t → of_first_rows t (tree b) ≡ tree (first_rows t b)
tree_of_first_rows [] t h = tree_below [] t (omega arith)
tree_of_first_rows (row ∷ older) t h = elim (nat_lt (size older) t) as (λ (x : Bool). nat_lt (size older) t ≡ x
    → of_first_rows t (tree (row ∷ older)) ≡ tree (first_rows t (row ∷ older))) [
      | true ↦ λ test. let lower : size older < t = ltb-true _ _ test in
          tree_below (row ∷ older) t (omega arith) ∙ ap tree (sym (all_rows (row ∷ older) t (omega arith)))
      | false ↦ λ test. let higher : t ≤ size older = ltb-false _ _ test in
          left_out t (size older) (tree older) (tree (row ∷ older)) higher (adds_row older row.moment row.deed (tree older))
          ∙ tree_of_first_rows older t h ∙ ap tree (sym (first_rows_stay row older t higher))
    ] refl

-- labels that one row places: left out at or after the limit, kept before it
places_out : (t n : ℕ) (label : List ℕ) (placed : List Placed) (changes : List LabelChange) → t ≤ n →
    labels_of_first_rows t (all_placed n label placed changes) ≡ labels_of_first_rows t changes
places_out t n label [] changes h = refl
places_out t n label (one ∷ more) changes h =
    places_out t n label more (Put n label one.element one.version ∷ changes) h ∙ grind (arith, nat_tests)

places_kept : (t n : ℕ) (label : List ℕ) (placed : List Placed) (changes : List LabelChange) → n < t →
    labels_of_first_rows t changes ≡ changes → labels_of_first_rows t (all_placed n label placed changes)
    ≡ all_placed n label placed changes
places_kept t n label [] changes h same = same
places_kept t n label (one ∷ more) changes h same =
    places_kept t n label more (Put n label one.element one.version ∷ changes) h (grind (arith, nat_tests, same))

labels_out : (t n : ℕ) (deed : Deed) (changes : List LabelChange) → t ≤ n
    → labels_of_first_rows t (labels_after n deed changes) ≡ labels_of_first_rows t changes
labels_out t n (deeds.Label label e version) changes h = grind (arith, nat_tests)
labels_out t n (deeds.Unlabel label e) changes h = grind (arith, nat_tests)
labels_out t n (deeds.Labels label placed) changes h = places_out t n label placed changes h
labels_out t n deed changes h = refl

labels_kept : (t n : ℕ) (deed : Deed) (changes : List LabelChange) → n < t → labels_of_first_rows t changes ≡ changes →
    labels_of_first_rows t (labels_after n deed changes) ≡ labels_after n deed changes
labels_kept t n (deeds.Label label e version) changes h same = grind (arith, nat_tests, same)
labels_kept t n (deeds.Unlabel label e) changes h same = grind (arith, nat_tests, same)
labels_kept t n (deeds.Labels label placed) changes h same = places_kept t n label placed changes h same
labels_kept t n deed changes h same = same

-- no change of labels is by a row after the last
pub labels_below : (b : Base) (t : ℕ) → size b ≤ t → labels_of_first_rows t (labels b) ≡ labels b
labels_below [] t h = refl
labels_below (row ∷ older) t h = labels_kept t (size older) row.deed (labels older) (omega arith)
    (labels_below older t (omega arith))

-- the changes of the labels by the first rows
pub labels_of_first : (b : Base) (t : ℕ) → labels_of_first_rows t (labels b) ≡ labels (first_rows t b)
labels_of_first [] t = refl
labels_of_first (row ∷ older) t = elim (nat_lt (size older) t) as (λ (x : Bool). nat_lt (size older) t ≡ x
    → labels_of_first_rows t (labels (row ∷ older)) ≡ labels (first_rows t (row ∷ older))) [
      | true ↦ λ test. let lower : size older < t = ltb-true _ _ test in
          labels_below (row ∷ older) t (omega arith) ∙ ap labels (sym (all_rows (row ∷ older) t (omega arith)))
      | false ↦ λ test. let higher : t ≤ size older = ltb-false _ _ test in
          labels_out t (size older) row.deed (labels older) higher ∙ labels_of_first older t
          ∙ ap labels (sym (first_rows_stay row older t higher))
    ] refl

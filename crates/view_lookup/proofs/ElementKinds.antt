-- The kind of an element is given by the row that made it.
use Rattle.std.proofs.Common.{◌≡◌, ℕ, ◌<◌, ◌==◌, Bool, true, false, cond, Option, Some, None, List, [], ◌∷◌, length, refl, ap}
use Rattle.std.proofs.Common.{sym, ◌∙◌, arith}
use Rattle.std.specs.Prelude.{option_and_then}
use Rattle.std.proofs.lemmas.Bool.Decides.{nat_tests}
use Rattle.cc_names.specs.Branches.{branch_of_version}
use Rattle.cc_names.specs.Formed.{Plain}
use Rattle.cc_names.specs.Versions.{change_at, kind_by, kind_of, row_of_change}
use Rattle.cc_names.specs.declared.changes.TreeChange.{TreeChange}
use Rattle.cc_names.specs.declared.changes.TreeChange.TheVariants.{ElementMade, BranchMade, VersionMade}
use Rattle.cc_names.specs.declared.rows.Deed.{Deed}
use Rattle.cc_names.specs.declared.rows.Deed.TheVariants as deeds
use Rattle.cc_names.specs.declared.rows.Kind.{Kind}
use Rattle.cc_names.specs.declared.rows.Kind.TheVariants.{Directory}
use Rattle.base_model.specs.Changes.{tree, tree_after, with_checkin, with_version}
use Rattle.base_model.specs.Rows.{Base, size, row_at, deed_at, deed_of}
use Rattle.base_model.specs.Views.{Checkout, out}
use Rattle.base_rows.specs.Made.{kind_made}
use Rattle.base_rows.proofs.Newest.{no_later}

-- a row adds a change of its own number and kind, or none, and then makes no element
data Adds (n : ℕ) (made : Option Kind) (before after : List TreeChange) : Type 0 where
  Nothing : after ≡ before → made ≡ None → Adds n made before after
  One : (change : TreeChange) → row_of_change change ≡ n → kind_by change ≡ made → after ≡ change ∷ before
      → Adds n made before after

adds_version : (n moment : ℕ) (branch : Option ℕ) (changes : List TreeChange)
    → Adds n None changes (with_version n moment branch changes)
adds_version n moment None changes = Nothing refl refl
adds_version n moment (Some branch) changes = One (VersionMade n moment branch) refl refl refl

adds_checkin : (n moment : ℕ) (checkout : Option Checkout) (changes : List TreeChange)
    → Adds n None changes (with_checkin n moment checkout changes)
adds_checkin n moment None changes = Nothing refl refl
adds_checkin n moment (Some checkout) changes = adds_version n moment (branch_of_version changes checkout.origin) changes

adds_row : (older : Base) (moment : ℕ) (deed : Deed) (changes : List TreeChange)
    → Adds (size older) (kind_made deed) changes (tree_after older moment deed changes)
adds_row older moment (deeds.Mkelem v directory name kind out) changes = One (ElementMade (size older) moment kind) refl refl refl
adds_row older moment (deeds.Branch v e origin name out) changes = One (BranchMade (size older) moment e origin name) refl refl
    refl
adds_row older moment (deeds.Checkin v e) changes = adds_checkin (size older) moment (out older v e) changes
adds_row older moment deed changes = Nothing refl refl

-- the kind after a row
kind_after : (n e : ℕ) (made : Option Kind) (before after : List TreeChange) → Adds n made before after → kind_of before n ≡ None
    → kind_of after e ≡ cond (n == e) made (kind_of before e)
kind_after n e made before after (Nothing same none) new =
    ap (λ changes. kind_of changes e) same
    ∙ elim (n == e) as (λ is. (n == e) ≡ is → kind_of before e ≡ cond is made (kind_of before e)) [
      | true ↦ λ test. let at : n ≡ e = grind (arith, nat_tests) in ap (kind_of before) (sym at) ∙ new ∙ sym none
      | false ↦ λ test. refl
    ] refl
kind_after n e made before after (One change at kind same) new =
    ap (λ changes. kind_of changes e) same
    ∙ elim (n == e) as (λ is. (n == e) ≡ is → option_and_then kind_by (cond (row_of_change change == e) (Some change)
    (change_at before e)) ≡ cond is made (kind_of before e)) [
      | true ↦ λ test. ap (λ is. option_and_then kind_by (cond is (Some change) (change_at before e))) (ap (λ m. m == e) at
          ∙ test) ∙ kind
      | false ↦ λ test. ap (λ is. option_and_then kind_by (cond is (Some change) (change_at before e))) (ap (λ m. m == e) at
          ∙ test)
    ] refl

-- the kind of an element below the root, by its row
abbrev pub kind_at : Base → ℕ → Option Kind
kind_at b e = option_and_then kind_made (deed_at b e)

-- the same of any element
abbrev pub kind_by_row : Base → ℕ → Option Kind
kind_by_row b e = cond (e == 0) (Some Directory) (kind_at b e)

is_zero : (e : ℕ) → (0 == e) ≡ (e == 0)
is_zero e = grind (arith, nat_tests)

of_root : (e : ℕ) (is : Bool) → option_and_then kind_by (cond is (Some (ElementMade 0 0 Directory)) None)
    ≡ cond is (Some Directory) None
of_root e true = refl
of_root e false = refl

behind : (b : Base) (n : ℕ) → length b < n → kind_by_row b n ≡ None
behind b n more =
    let later : (n == 0) ≡ false = grind (arith, nat_tests) in
    ap (λ is. cond is (Some Directory) (kind_at b n)) later ∙ ap (λ row. option_and_then kind_made (deed_of row))
    (no_later b n more)

-- the kind of the newest row's element or of an older one
newest_or : (row : Plain) (older : Base) (e : ℕ) (here : Bool) → (size older == e) ≡ here
    → cond here (kind_made row.deed) (kind_by_row older e) ≡ kind_by_row (row ∷ older) e
newest_or row older e true test =
    let later : (e == 0) ≡ false = grind (arith, nat_tests) in
    sym (ap (λ is. cond is (Some Directory) (kind_at (row ∷ older) e)) later
    ∙ ap (λ is. option_and_then kind_made (deed_of (elim is [ true ↦ Some row | false ↦ row_at older e ]))) test)
newest_or row older e false test =
    ap (λ is. cond (e == 0) (Some Directory) (option_and_then kind_made
    (deed_of (elim is [ true ↦ Some row | false ↦ row_at older e ])))) (sym test)

-- The kind of an element is that of the row of its number, and the root is a directory.
pub kind_by_its_row : (b : Base) (e : ℕ) → kind_of (tree b) e ≡ kind_by_row b e
kind_by_its_row [] e = ap (λ is. option_and_then kind_by (cond is (Some (ElementMade 0 0 Directory)) None)) (is_zero e)
    ∙ of_root e (e == 0)
kind_by_its_row (row ∷ older) e =
    let n = size older in
    kind_after n e (kind_made row.deed) (tree older) (tree (row ∷ older)) (adds_row older row.moment row.deed (tree older))
    (kind_by_its_row older n ∙ behind older n (omega arith))
    ∙ ap (cond (n == e) (kind_made row.deed)) (kind_by_its_row older e)
    ∙ newest_or row older e (n == e) refl

-- What a version follows is a row of the base.
use Rattle.std.proofs.Common.{◌≡◌, refl, sym, subst, ◌∙◌, ℕ, suc, ◌<◌, Bool, true, false, ◌&&◌, ◌||◌, ◌==◌, Option, Some, None}
use Rattle.std.proofs.Common.{List, [], ◌∷◌, arith}
use Rattle.std.specs.Prelude.{cond, find, is_none, not, option_and_then}
use Rattle.cc_names.specs.Branches.{branch_of_version, origin_by, origin_of}
use Rattle.cc_names.specs.Versions.{branch_of_change, change_at, is_number, version_of_number, row_of_change, versions_on}
use Rattle.cc_names.specs.declared.changes.TreeChange.{TreeChange}
use Rattle.cc_names.specs.declared.changes.TreeChange.TheVariants.{ElementMade, BranchMade, VersionMade}
use Rattle.cc_names.specs.declared.rows.Deed.{Deed}
use Rattle.cc_names.specs.declared.rows.Deed.TheVariants as deeds
use Rattle.cc_names.specs.declared.rows.Kind.TheVariants.{Directory}
use Rattle.cc_names.proofs.Common.{and_first, same_number, number_found}
use Rattle.base_model.specs.Changes.{tree, tree_after, with_checkin, with_version}
use Rattle.base_model.specs.Closures.{is_version_of}
use Rattle.base_model.specs.Conditions.{arrow_row, exists, has_branch, has_out, is_branch_type}
use Rattle.base_model.specs.Fits.{deed_fits, is_base}
use Rattle.base_model.specs.Rows.{Base, size}
use Rattle.base_model.specs.Views.{Checkout, out}
use Rattle.legal_history.specs.Queries.Merges.{follows, is_arrow_between, is_branch_from, is_successor, leads}
use Rattle.base_model.proofs.Below.{within}
use Rattle.base_model.proofs.Owned.{row_fits, rows_below, third_of}
use Rattle.base_model.proofs.VersionRows.{version_below}
use Rattle.vob_history.proofs.Predecessors.{branch_by}

successor_below : (b : Base) (one two : ℕ) → is_successor b one two ≡ true → one < size b
successor_below b one two h = by (change_at (tree b) one) refl h
  where
    by : (o : Option TreeChange) → change_at (tree b) one ≡ o →
        is_number two (option_and_then (λ version. version_of_number (tree b) version.branch (suc version.number))
        (option_and_then (λ change. find (λ v. v.row == one) (versions_on (tree b) (branch_of_change change))) o)) ≡ true →
        one < size b
    by None at h = absurd (cc)
    by (Some change) at h = (within b).numbers one change at

-- the branches that some changes made leave at rows below a number
record AreBelow (limit : ℕ) (changes : List TreeChange) : Type 0 where
  origins : (branch origin : ℕ) → origin_of changes branch ≡ Some origin → origin < limit

one_more : (limit : ℕ) (change : TreeChange) (before : List TreeChange)
    → ((origin : ℕ) → origin_by change ≡ Some origin → origin < suc limit) → AreBelow limit before
    → AreBelow (suc limit) (change ∷ before)
one_more limit change before own h = record { origins = λ branch origin is. by branch origin (row_of_change change == branch) is }
  where
    by : (branch origin : ℕ) (t : Bool) → option_and_then origin_by (cond t (Some change) (change_at before branch)) ≡ Some origin
        → origin < suc limit
    by branch origin true is = own origin is
    by branch origin false is = let low = h.origins branch origin is in omega (arith, low)

no_more : (limit : ℕ) (before : List TreeChange) → AreBelow limit before → AreBelow (suc limit) before
no_more limit before h = record { origins = λ branch origin is. let low = h.origins branch origin is in omega (arith, low) }

version_more : (limit moment : ℕ) (branch : Option ℕ) (before : List TreeChange) → AreBelow limit before
    → AreBelow (suc limit) (with_version limit moment branch before)
version_more limit moment None before h = no_more limit before h
version_more limit moment (Some branch) before h = one_more limit (VersionMade limit moment branch) before
    (λ origin is. absurd (cc)) h

checkin_more : (limit moment : ℕ) (taken : Option Checkout) (before : List TreeChange) → AreBelow limit before
    → AreBelow (suc limit) (with_checkin limit moment taken before)
checkin_more limit moment None before h = no_more limit before h
checkin_more limit moment (Some checkout) before h = version_more limit moment (branch_of_version before checkout.origin) before h

row_more : (older : Base) (moment : ℕ) (deed : Deed) → deed_fits older deed ≡ true → AreBelow (size older) (tree older)
    → AreBelow (suc (size older)) (tree_after older moment deed (tree older))
row_more older moment (deeds.Mkelem v directory name kind taken) fit h =
    one_more (size older) (ElementMade (size older) moment kind) (tree older) (λ origin is. absurd (cc)) h
row_more older moment (deeds.Branch v e leaves name taken) fit h =
    let version = third_of (exists older v) (not (has_out older v e)) (is_version_of older e leaves) (is_branch_type older name)
    (not (has_branch older e name)) fit in
    let low = version_below older e leaves version in
    one_more (size older) (BranchMade (size older) moment e leaves name) (tree older)
    (λ origin is. let same : leaves ≡ origin = cc in omega (arith, low, same)) h
row_more older moment (deeds.Checkin v e) fit h = checkin_more (size older) moment (out older v e) (tree older) h
row_more older moment deed fit h = no_more (size older) (tree older) h

are_below : (b : Base) → is_base b ≡ true → AreBelow (size b) (tree b)
are_below [] base = one_more 0 (ElementMade 0 0 Directory) [] (λ origin is. absurd (cc))
    (record { origins = λ branch origin is. absurd (cc) })
are_below (row ∷ older) base = row_more older row.moment row.deed (row_fits row older base)
    (are_below older (rows_below row older base))

branch_below : (b : Base) (one two : ℕ) → is_base b ≡ true → is_branch_from (tree b) one two ≡ true → one < size b
branch_below b one two base h = (are_below b base).origins two one (number_found one (origin_of (tree b) two)
    (sym (branch_by b one two) ∙ h))

arrow_source_below : (b : Base) (one two : ℕ) (deed : Deed) → deed_fits b deed ≡ true → leads one two deed ≡ true → one < size b
arrow_source_below b one two (deeds.Arrow e tail head) fit h =
    let number = same_number tail one (and_first (tail == one) (head == two) h) in
    let three = and_first (is_version_of b e tail && is_version_of b e head && not (tail == head))
    (is_none (arrow_row b e tail head)) fit in
    let both = and_first (is_version_of b e tail && is_version_of b e head) (not (tail == head)) three in
    subst (λ n. n < size b) number (version_below b e tail (and_first (is_version_of b e tail) (is_version_of b e head) both))
arrow_source_below b one two deed fit h = absurd (cc)

arrow_below : (b : Base) (one two : ℕ) → is_base b ≡ true → is_arrow_between b one two ≡ true → one < size b
arrow_below [] one two base h = absurd (cc)
arrow_below (row ∷ older) one two base h = by (leads one two row.deed) refl h
    (arrow_below older one two (rows_below row older base))
  where
    by : (t : Bool) → leads one two row.deed ≡ t → (t || is_arrow_between older one two) ≡ true
        → (is_arrow_between older one two ≡ true → one < size older) → one < size (row ∷ older)
    by true e h rest = let low = arrow_source_below older one two row.deed (row_fits row older base) e in omega arith
    by false e h rest = let low = rest h in omega arith

pub leader_below : (b : Base) (one two : ℕ) → is_base b ≡ true → follows b one two ≡ true → one < size b
leader_below b one two base h = by (is_successor b one two) (is_branch_from (tree b) one two) refl refl h
  where
    by : (s t : Bool) → is_successor b one two ≡ s → is_branch_from (tree b) one two ≡ t
        → (s || t || is_arrow_between b one two) ≡ true → one < size b
    by true t e f h = successor_below b one two e
    by false true e f h = branch_below b one two base f
    by false false e f h = arrow_below b one two base h

-- What a view selects of an element of a base is one of its versions, or the view's checkout.
use Rattle.std.proofs.Common.{◌≡◌, refl, ap, sym, subst, ◌∙◌, ℕ, Bool, true, false, cond, ◌==◌, Option, Some, None, List, [], ◌∷◌}
use Rattle.std.specs.Prelude.{is_some, option_and_then, option_map, find, bytes_eq, if◌then◌else◌, codes}
use Rattle.std.specs.Ordering.{nat_cmp}
use Rattle.std.specs.FinMap.Entries.{find as find_key}
use Rattle.cc_names.specs.Branches.{makes_branch, branch_named, branch_behind, branch_from, if_above, branch_above}
use Rattle.cc_names.specs.Versions.{row_of_change, change_at, kind_by, element_by, element_of_branch, latest, version_of_number}
use Rattle.cc_names.specs.Versions.{is_before, is_number}
use Rattle.cc_names.specs.declared.changes.TreeChange.{TreeChange}
use Rattle.cc_names.specs.declared.changes.TreeChange.TheVariants.{ElementMade, BranchMade, VersionMade}
use Rattle.cc_names.specs.declared.rows.Kind.TheVariants.{Directory}
use Rattle.cc_names.specs.declared.selection.Picked.{Picked}
use Rattle.cc_names.specs.declared.selection.Rule.{Rule}
use Rattle.cc_names.specs.declared.selection.Selector.{Selector}
use Rattle.cc_names.specs.declared.selection.Selector.TheVariants as selectors
use Rattle.cc_names.proofs.Common.{found_passes, same_number, and_first}
use Rattle.base_model.specs.ConfigSpecs.Rules.{finds, found_by, is_checkout, deciding, picked_by, branch_of_type}
use Rattle.base_model.specs.Rows.{Base, size, only_where}
use Rattle.base_model.specs.Changes.{tree, targets_of}
use Rattle.base_model.specs.Closures.{is_version_of, recorded_version, listing, closure, is_path_among}
use Rattle.base_model.specs.Fits.{is_base}
use Rattle.base_model.specs.Seen.{sources, selection_at, rules}
use Rattle.base_model.specs.Views.{making}
use Rattle.base_model.proofs.Below.{Within, within, older_change, found_change}
use Rattle.base_model.proofs.CatalogElements.{IsElement}
use Rattle.base_model.proofs.LabelsHold.{labels_hold, all_listed}
use Rattle.base_model.proofs.OnBranches.{version_found}
use Rattle.base_model.proofs.Origins.{newest_change}
use Rattle.base_model.proofs.Owned.{same_is_same}
use Rattle.base_model.proofs.TreesStay.{Adds, Nothing, One, adds_row}
use Rattle.base_model.proofs.VersionsStay.{apart_below}

-- each change that is found is found by its number too
record AllFound (changes : List TreeChange) : Type 0 where
  by_number : (test : TreeChange → Bool) (c : TreeChange) → find test changes ≡ Some c
      → change_at changes (row_of_change c) ≡ Some c

one_more_found : (n : ℕ) (change : TreeChange) (before : List TreeChange) → row_of_change change ≡ n → Within n before
    → AllFound before → AllFound (change ∷ before)
one_more_found n change before number w h = record { by_number = λ test c e. by test c (test change) e }
  where
    by : (test : TreeChange → Bool) (c : TreeChange) (x : Bool) → cond x (Some change) (find test before) ≡ Some c
        → change_at (change ∷ before) (row_of_change c) ≡ Some c
    by test c true e = let same : change ≡ c = cc in subst (λ c. change_at (change ∷ before) (row_of_change c) ≡ Some c) same
        (newest_change change before (row_of_change change) (same_is_same (row_of_change change)))
    by test c false e =
        let older = h.by_number test c e in
        older_change change before (row_of_change c) (apart_below (row_of_change change) n (row_of_change c) number
        (w.numbers (row_of_change c) c older)) ∙ older

all_found : (b : Base) → AllFound (tree b)
all_found [] = one_more_found 0 (ElementMade 0 0 Directory) [] refl (record {
  numbers = λ r c e. absurd (cc);
  branches = λ r c e. absurd (cc);
})
    (record { by_number = λ test c e. absurd (cc) })
all_found (row ∷ older) = by (adds_row older row.moment row.deed (tree older)) (all_found older)
  where
    by : {after : List TreeChange} → Adds (size older) (tree older) after → AllFound (tree older) → AllFound after
    by (Nothing same) h = subst AllFound (sym same) h
    by (One change number same) h = subst AllFound (sym same) (one_more_found (size older) change (tree older) number
        (within older) h)

-- a branch of an element
abbrev OfElement : Base → ℕ → ℕ → Type 0
OfElement b e branch = element_of_branch (tree b) branch ≡ Some e

-- `main` is named by its element
main_of : (b : Base) (e : ℕ) → IsElement b e → OfElement b e e
main_of b e h = by (change_at (tree b) e) refl h
  where
    element : (c : TreeChange) → is_some (kind_by c) ≡ true → row_of_change c ≡ e → element_by c ≡ Some e
    element (ElementMade row moment kind) h same = ap Some same
    element (BranchMade row moment f origin name) h same = absurd (cc)
    element (VersionMade row moment branch) h same = absurd (cc)

    by : (o : Option TreeChange) → change_at (tree b) e ≡ o → is_some (option_and_then kind_by o) ≡ true → OfElement b e e
    by None is h = absurd (cc)
    by (Some c) is h = ap (option_and_then element_by) is ∙ element c h (found_change (tree b) e c is)

-- a branch that is found by its type is one of the element
named_of : (b : Base) (e : ℕ) (name : List ℕ) (branch : ℕ) → branch_named (tree b) e name ≡ Some branch → OfElement b e branch
named_of b e name branch h = by (find (makes_branch e name) (tree b)) refl h
  where
    owner : (c : TreeChange) → makes_branch e name c ≡ true → element_by c ≡ Some e
    owner (ElementMade row moment kind) h = absurd (cc)
    owner (BranchMade row moment f origin own) h = ap Some (sym (same_number e f (and_first (e == f) (bytes_eq name own) h)))
    owner (VersionMade row moment other) h = absurd (cc)

    by : (o : Option TreeChange) → find (makes_branch e name) (tree b) ≡ o → option_map row_of_change o ≡ Some branch
        → OfElement b e branch
    by None is h = absurd (cc)
    by (Some c) is h =
        let same : row_of_change c ≡ branch = cc in
        subst (OfElement b e) same (ap (option_and_then element_by) ((all_found b).by_number (makes_branch e name) c is)
        ∙ owner c (found_passes (makes_branch e name) (tree b) c is))

-- a branch to which names lead is one of the element
if_above_of : (b : Base) (e above below next : ℕ) → OfElement b e below → if_above (tree b) above below ≡ Some next
    → OfElement b e next
if_above_of b e above below next h is = by (is_number above (branch_above (tree b) below)) is
  where
    by : (t : Bool) → (if t then Some below else None) ≡ Some next → OfElement b e next
    by true is = let same : below ≡ next = cc in subst (OfElement b e) same h
    by false is = absurd (cc)

behind_of : (b : Base) (e branch : ℕ) (names : List (List ℕ)) (found : ℕ) → OfElement b e branch
    → branch_from (tree b) e branch names ≡ Some found → OfElement b e found
behind_of b e branch [] found h is = let same : branch ≡ found = cc in subst (OfElement b e) same h
behind_of b e branch (name ∷ names) found h is = by_named (branch_named (tree b) e name) refl is
    (λ next of_next e2. behind_of b e next names found of_next e2)
  where
    by_above : (o : Option ℕ) → ((next : ℕ) → o ≡ Some next → OfElement b e next)
        → option_and_then (λ next. branch_from (tree b) e next names) o ≡ Some found →
        ((next : ℕ) → OfElement b e next → branch_from (tree b) e next names ≡ Some found → OfElement b e found)
        → OfElement b e found
    by_above None each is rest = absurd (cc)
    by_above (Some next) each is rest = rest next (each next refl) is

    by_named : (o : Option ℕ) → branch_named (tree b) e name ≡ o → option_and_then (λ next. branch_from (tree b) e next names)
        (option_and_then (if_above (tree b) branch) o) ≡ Some found →
        ((next : ℕ) → OfElement b e next → branch_from (tree b) e next names ≡ Some found → OfElement b e found)
        → OfElement b e found
    by_named None named is rest = absurd (cc)
    by_named (Some below) named is rest = by_above (if_above (tree b) branch below)
        (λ next e2. if_above_of b e branch below next (named_of b e name below named) e2) is rest

-- something found on a branch that was found
on_found : (b : Base) (e r : ℕ) (branch : Option ℕ) (find_on : ℕ → Option ℕ)
    → ((m : ℕ) → branch ≡ Some m → find_on m ≡ Some r → is_version_of b e r ≡ true) →
    option_and_then find_on branch ≡ Some r → is_version_of b e r ≡ true
on_found b e r None find_on each h = absurd (cc)
on_found b e r (Some m) find_on each h = each m refl h

by_type_of : (b : Base) (v : List ℕ) (e : ℕ) (name : List ℕ) (m : ℕ) → IsElement b e
    → branch_of_type (sources b v e) e name ≡ Some m → OfElement b e m
by_type_of b v e name m h is = by (bytes_eq name (codes "main")) is
  where
    by : (t : Bool) → (if t then Some e else branch_named (tree b) e name) ≡ Some m → OfElement b e m
    by true is = let same : e ≡ m = cc in subst (OfElement b e) same (main_of b e h)
    by false is = named_of b e name m is

listed_version : (b : Base) (id : ℕ) (target : List ℕ) (e r : ℕ) → recorded_version b id target e ≡ Some r
    → is_version_of b e r ≡ true
listed_version b id target e r is = by (is_path_among target (targets_of b id)) is
  where
    by : (t : Bool) → only_where t (find_key nat_cmp e (listing b id)) ≡ Some r → is_version_of b e r ≡ true
    by true is = (all_listed b (closure b id)).lists e r is
    by false is = absurd (cc)

-- what a selector other than CHECKEDOUT finds of an element is one of its versions
pub found_version : (b : Base) (v : List ℕ) (e : ℕ) (before : Option ℕ) (selector : Selector) (r : ℕ) → is_base b ≡ true
    → IsElement b e → is_checkout selector ≡ false →
    finds (sources b v e) e before selector ≡ Some r → is_version_of b e r ≡ true
found_version b v e before selectors.CheckedOut r base h other is = absurd (cc)
found_version b v e before (selectors.Label name) r base h other is = (labels_hold b base).holds name e r is
found_version b v e before (selectors.Latest names) r base h other is =
    on_found b e r (branch_behind (tree b) e names) (λ m. latest (tree b) m before)
    (λ m of_m found. version_found b e m (λ w. is_before before w.moment) r (behind_of b e e names m (main_of b e h) of_m) found)
    is
found_version b v e before (selectors.Wherever name) r base h other is =
    on_found b e r (branch_of_type (sources b v e) e name) (λ m. latest (tree b) m before)
    (λ m of_m found. version_found b e m (λ w. is_before before w.moment) r (by_type_of b v e name m h of_m) found) is
found_version b v e before (selectors.Numbered names number) r base h other is =
    on_found b e r (branch_behind (tree b) e names) (λ m. version_of_number (tree b) m number)
    (λ m of_m found. version_found b e m (λ w. w.number == number) r (behind_of b e e names m (main_of b e h) of_m) found) is
found_version b v e before (selectors.Config target object) r base h other is = listed_version b object target e r is
found_version b v e before selectors.Nothing r base h other is = absurd (cc)

-- what was picked of an element: the view's own making row where it is a checkout, else a version
pub record IsPick (b : Base) (v : List ℕ) (e : ℕ) (picked : Picked) : Type 0 where
  pub own : picked.out ≡ true → making b v e ≡ Some picked.row
  pub version : picked.out ≡ false → is_version_of b e picked.row ≡ true

picked_found : (b : Base) (v : List ℕ) (e : ℕ) (rule : Rule) (picked : Picked) → is_base b ≡ true → IsElement b e
    → picked_by (sources b v e) e rule ≡ Some picked → IsPick b v e picked
picked_found b v e rule picked base h is = by (found_by (sources b v e) e rule) refl is
  where
    own_of_selector : (selector : Selector) (r : ℕ) → is_checkout selector ≡ true
        → finds (sources b v e) e rule.before selector ≡ Some r → making b v e ≡ Some r
    own_of_selector selectors.CheckedOut r own found = found
    own_of_selector (selectors.Label name) r own found = absurd (cc)
    own_of_selector (selectors.Latest names) r own found = absurd (cc)
    own_of_selector (selectors.Wherever name) r own found = absurd (cc)
    own_of_selector (selectors.Numbered names number) r own found = absurd (cc)
    own_of_selector (selectors.Config target object) r own found = absurd (cc)
    own_of_selector selectors.Nothing r own found = absurd (cc)

    by : (o : Option ℕ) → found_by (sources b v e) e rule ≡ o → option_map
        (λ row. record { row = row; line = rule.line; out = is_checkout rule.selector }) o ≡ Some picked → IsPick b v e picked
    by None found is = absurd (cc)
    by (Some r) found is =
        let same : record { row = r; line = rule.line; out = is_checkout rule.selector } ≡ picked = cc in
        subst (IsPick b v e) same (record {
          own = λ own. own_of_selector rule.selector r own found;
          version = λ other. found_version b v e rule.before rule.selector r base h other found;
        })

pub picked_is : (b : Base) (v : List ℕ) (e : ℕ) (names : List (List ℕ)) (picked : Picked) → is_base b ≡ true → IsElement b e
    → selection_at b v e names ≡ Some picked → IsPick b v e picked
picked_is b v e names picked base h is = by (deciding (sources b v e) e names (rules b v)) is
  where
    by : (o : Option Rule) → option_and_then (picked_by (sources b v e) e) o ≡ Some picked → IsPick b v e picked
    by None is = absurd (cc)
    by (Some rule) is = picked_found b v e rule picked base h is

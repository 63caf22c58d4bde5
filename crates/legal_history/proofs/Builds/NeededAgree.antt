-- What holds of each unit of a build that has its outcome holds of all units that a ready unit needs, directly or through others.
use Rattle.std.proofs.Common.{◌≡◌, refl, ap, subst, ℕ, zero, suc, Bool, true, false, ◌||◌, Option, Some, None, List, [], ◌∷◌}
use Rattle.std.proofs.Common.{◌++◌}
use Rattle.std.specs.Prelude.{is_some, bytes_eq}
use Rattle.std.specs.List.{AllByRecursion, list_any}
use Rattle.std.proofs.lemmas.Bool.{or_left, or_right}
use Rattle.cc_names.specs.declared.units.Unit.{Unit}
use Rattle.cc_names.proofs.Common.{bytes_equal_themselves}
use Rattle.base_model.specs.Rows.{Base, first_rows}
use Rattle.legal_history.specs.Builds.Active.{Build, Came, came_to, is_outcome, unit_at}
use Rattle.base_model.specs.Closures.{is_path_among}
use Rattle.legal_history.specs.Builds.Freshness.{Agrees, AgreesSoFar, outcome_in}
use Rattle.legal_history.specs.Builds.Consistency.{IsReady, IsConsistent}
use Rattle.legal_history.specs.Builds.Serials.{makes, needed_units}
use Rattle.legal_history.proofs.Builds.FreshSeen.{outcome_there}
use Rattle.legal_history.proofs.Builds.Pairs.{Pair, unit_in, with_pair, pairs_before}

-- a pair whose unit has an outcome that agrees
pub record PairAgrees (b : Base) (pair : Pair) : Type 0 where
  pub came : Came
  pub is : pair.came ≡ Some came
  pub agrees : Agrees b pair.unit came pair.outcome

abbrev pub PairsAgree : Base → List Pair → Type 0
PairsAgree b pairs = AllByRecursion (PairAgrees b) pairs

-- a unit that makes one of some paths
pub some_made : (u : Unit) (paths : List (List ℕ)) → list_any (λ path. makes path u) paths ≡ true → (path : List ℕ)
    × (is_path_among path paths ≡ true) × (makes path u ≡ true)
some_made u [] h = absurd (cc)
some_made u (path ∷ paths) h = by (makes path u) refl h (some_made u paths)
  where
    by : (t : Bool) → makes path u ≡ t → (t || list_any (λ path. makes path u) paths) ≡ true →
        (list_any (λ path. makes path u) paths ≡ true → (p : List ℕ) × (is_path_among p paths ≡ true) × (makes p u ≡ true))
        → (p : List ℕ) × (is_path_among p (path ∷ paths) ≡ true) × (makes p u ≡ true)
    by true is h rest = (path, or_left (bytes_eq path path) (list_any (bytes_eq path) paths) (bytes_equal_themselves path), is)
    by false is h rest = let r = rest h in (r.0, or_right (bytes_eq r.0 path) (list_any (bytes_eq r.0) paths) r.1, r.2)

pub among_both : (path : List ℕ) (xs ys : List (List ℕ)) → is_path_among path (xs ++ ys) ≡ true → (t : Bool)
    × (is_path_among path xs ≡ t) × ((t ≡ false) → is_path_among path ys ≡ true)
among_both path [] ys h = (false, refl, λ e. h)
among_both path (x ∷ xs) ys h = by (bytes_eq path x) h (among_both path xs ys)
  where
    by : (t : Bool) → (t || is_path_among path (xs ++ ys)) ≡ true → (is_path_among path (xs ++ ys) ≡ true → (u : Bool)
        × (is_path_among path xs ≡ u) × ((u ≡ false) → is_path_among path ys ≡ true)) →
        (u : Bool) × ((t || is_path_among path xs) ≡ u) × ((u ≡ false) → is_path_among path ys ≡ true)
    by true h rest = (true, refl, λ e. absurd (cc))
    by false h rest = rest h

-- paths whose units all have outcomes
abbrev pub AreOver : Build → List (List ℕ) → Type 0
AreOver build paths = (m : ℕ) (u : Unit) (path : List ℕ) → is_path_among path paths ≡ true → unit_at build m ≡ Some u
    → makes path u ≡ true → is_outcome (came_to build m) ≡ true

over_both : (build : Build) (xs ys : List (List ℕ)) → AreOver build xs → AreOver build ys → AreOver build (xs ++ ys)
over_both build xs ys h g = λ m u path among is made. by m u path (among_both path xs ys among) is made
  where
    by_test : (m : ℕ) (u : Unit) (path : List ℕ) (t : Bool) → is_path_among path xs ≡ t
        → ((t ≡ false) → is_path_among path ys ≡ true) → unit_at build m ≡ Some u → makes path u ≡ true
        → is_outcome (came_to build m) ≡ true
    by_test m u path true in_xs in_ys is made = h m u path in_xs is made
    by_test m u path false in_xs in_ys is made = g m u path (in_ys refl) is made

    by : (m : ℕ) (u : Unit) (path : List ℕ) → (t : Bool) × (is_path_among path xs ≡ t)
        × ((t ≡ false) → is_path_among path ys ≡ true) → unit_at build m ≡ Some u → makes path u ≡ true
        → is_outcome (came_to build m) ≡ true
    by m u path r is made = by_test m u path r.0 r.1 r.2 is made

pub ready_over : (b : Base) (build : Build) (u : Unit) → IsConsistent b build → IsReady build u → AreOver build u.prerequisites
ready_over b build u h ready = λ m v path among is made. ready m path among (h.in_order.one m v path is made)

-- what holds of each unit of a build that has its outcome, as a pair
abbrev EachOver : (Pair → Type 0) → Base → Build → Type 0
EachOver P b build = (m : ℕ) (u : Unit) → unit_at build m ≡ Some u → is_outcome (came_to build m) ≡ true →
    P (record { unit = u; came = came_to build m; outcome = outcome_in (first_rows build.rows b) build m u })

-- holds of all that is needed for paths whose units have their outcomes
pub needed_each : (P : Pair → Type 0) (b : Base) (build : Build) (n : ℕ) (paths : List (List ℕ)) → IsConsistent b build
    → EachOver P b build → AreOver build paths →
    AllByRecursion P (needed_units unit_in paths (pairs_before (first_rows build.rows b) build n))
needed_each P b build zero paths h each over = tt
needed_each P b build (suc n) paths h each over = by (unit_at build n) refl
    (λ more over. needed_each P b build n more h each over)
  where
    by_unit : (u : Unit) (t : Bool) → unit_at build n ≡ Some u → list_any (λ path. makes path u) paths ≡ t →
        ((more : List (List ℕ)) → AreOver build more → AllByRecursion P
        (needed_units unit_in more (pairs_before (first_rows build.rows b) build n))) →
        AllByRecursion P (elim t as (λ x. List Pair) [
          | true ↦ record { unit = u; came = came_to build n; outcome = outcome_in (first_rows build.rows b) build n u }
              ∷ needed_units unit_in (paths ++ u.prerequisites) (pairs_before (first_rows build.rows b) build n)
          | false ↦ needed_units unit_in paths (pairs_before (first_rows build.rows b) build n)
        ])
    by_unit u true is test rest =
        let made = some_made u paths test in
        let outcome : is_outcome (came_to build n) ≡ true = over n u made.0 made.1 is made.2 in
        let there = outcome_there (came_to build n) outcome in
        let ready : IsReady build u = h.ready n u is (ap is_some there.1) in (
          each n u is outcome,
          rest (paths ++ u.prerequisites) (over_both build paths u.prerequisites over
              (ready_over b build u h ready)),
        )
    by_unit u false is test rest = rest paths over

    by : (o : Option Unit) → unit_at build n ≡ o → ((more : List (List ℕ)) → AreOver build more
        → AllByRecursion P (needed_units unit_in more (pairs_before (first_rows build.rows b) build n))) →
        AllByRecursion P (needed_units unit_in paths (with_pair (first_rows build.rows b) build n o
        (pairs_before (first_rows build.rows b) build n)))
    by None is rest = rest paths over
    by (Some u) is rest = by_unit u (list_any (λ path. makes path u) paths) is refl rest

-- all that is needed for such paths agrees
pub needed_agree : (b : Base) (build : Build) (n : ℕ) (paths : List (List ℕ)) → AgreesSoFar b build → AreOver build paths
    → PairsAgree b (needed_units unit_in paths (pairs_before (first_rows build.rows b) build n))
needed_agree b build n paths h over = needed_each (PairAgrees b) b build n paths h.consistent (λ m u is outcome.
    let there = outcome_there (came_to build m) outcome in
    record {
      came = there.0;
      is = there.1;
      agrees = h.agrees m u there.0 is there.1
          (subst (λ o. is_outcome o ≡ true) there.1 outcome);
    }) over

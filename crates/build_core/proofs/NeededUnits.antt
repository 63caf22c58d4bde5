-- What a unit finds at a path of the units that it needs: the object of the one unit that makes the path, where that is needed.
use Rattle.std.proofs.Common.{◌≡◌, refl, sym, ap, ◌∙◌, ℕ, zero, suc, ◌+◌, ◌≤◌, ◌<◌, ◌==◌, Bool, true, false, ◌||◌, ◌⊎◌, inl, inr}
use Rattle.std.proofs.Common.{Option, Some, None, List, [], ◌∷◌, ◌++◌, length, get_or, arith, add-one}
use Rattle.std.specs.Prelude.{slice_get}
use Rattle.std.specs.List.{list_any}
use Rattle.std.specs.Option.{option_or, option_and_then}
use Rattle.std.proofs.lemmas.Option.{slice_get-get_or, slice_get_within, get_or_from_slice_get}
use Rattle.std.proofs.lemmas.Bool.{cases_Bool}
use Rattle.cc_names.specs.Versions.{is_number}
use Rattle.cc_names.specs.declared.units.Unit.{Unit}
use Rattle.cc_names.specs.declared.units.UnitScript.TheVariants.{Bare}
use Rattle.cc_names.proofs.Common.{same_number as same_count}
use Rattle.make_graph.specs.Waits.{unit_of, makes_one, prerequisites_of, prerequisites_at, needed_units, closure_of, is_in}
use Rattle.make_graph.specs.Waits.{is_marked}
use Rattle.make_graph.proofs.NeedLemmas.{itself}
use Rattle.make_graph.proofs.StandingLaws.{when_made, when_not}
use Rattle.base_model.specs.Rows.{only_where}
use Rattle.base_model.specs.Closures.{is_path_among}
use Rattle.legal_history.specs.Builds.Active.{Build, came_to, object_of, number_from, unit_at, unit_with}
use Rattle.legal_history.specs.Builds.Consistency.{InOrder}
use Rattle.legal_history.specs.Builds.Serials.{makes}
use Rattle.legal_history.proofs.Builds.OrderedUnits.{same_number}
use Rattle.build_core.specs.VisibleObjects.{object_before, object_marked, AreNeeds}
use Rattle.build_core.proofs.Members.{passed, taken}

pub nobody : Unit
nobody = record { targets = []; prerequisites = []; script = Bare }

-- ---- the unit that makes a path is the one of its number

above : (l : ℕ) (path : List ℕ) (us : List Unit) (n : ℕ) → number_from l path us ≡ Some n → l ≤ n
above l path [] n h = absurd (cc)
above l path (u ∷ us) n h = split (is_path_among path u.targets) h (above (l + 1) path us n)
  where
    split : (t : Bool) → elim t as (λ b. Option ℕ) [ true ↦ Some l | false ↦ number_from (l + 1) path us ] ≡ Some n
        → (number_from (l + 1) path us ≡ Some n → l + 1 ≤ n) → l ≤ n
    split true h rest = let same : l ≡ n = cc in omega (arith, same)
    split false h rest = let more = rest h in omega (arith, more)

has_number : (k : ℕ) (path : List ℕ) (units : List Unit) (j : ℕ) (unit : Unit) → number_from k path units ≡ Some (k + j)
    → slice_get units j ≡ Some unit → makes path unit ≡ true
has_number k path [] j unit h at = absurd (cc)
has_number k path (first ∷ units) zero unit h at = by (is_path_among path first.targets) refl h
  where
    by : (t : Bool) → is_path_among path first.targets ≡ t → elim t as (λ b. Option ℕ) [
      | true ↦ Some k
      | false ↦
          number_from (k + 1) path units
    ] ≡ Some (k + 0) → makes path unit ≡ true
    by true is h = let same : first ≡ unit = cc in ap (makes path) (sym same) ∙ is
    by false is h = absurd (let low = above (k + 1) path units (k + 0) h in let none : ⊥ = omega (arith, low) in none)
has_number k path (first ∷ units) (suc i) unit h at = by (is_path_among path first.targets) h
    (has_number (k + 1) path units i unit)
  where
    by : (t : Bool) → elim t as (λ b. Option ℕ) [ true ↦ Some k | false ↦ number_from (k + 1) path units ] ≡ Some (k + suc i) →
        (number_from (k + 1) path units ≡ Some ((k + 1) + i) → slice_get units i ≡ Some unit → makes path unit ≡ true)
        → makes path unit ≡ true
    by true h rest = absurd (let same : k ≡ k + suc i = cc in let none : ⊥ = omega (arith, same) in none)
    by false h rest =
        let count : k + suc i ≡ (k + 1) + i = omega arith in
        rest (h ∙ ap Some count) at

makes_same : (units : List Unit) → InOrder units → (k : ℕ) (unit : Unit) (path : List ℕ) → slice_get units k ≡ Some unit
    → makes path unit ≡ is_number k (unit_of units path)
makes_same units order k unit path at = by (makes path unit) refl
  where
    split : (j : ℕ) → number_from 0 path units ≡ Some j → makes path unit ≡ false → ((k == j) ≡ true) ⊎ ((k == j) ≡ false)
        → false ≡ (k == j)
    split j is not (inr other) = sym other
    split j is not (inl same) =
        let at_j : slice_get units j ≡ Some unit = ap (slice_get units) (sym (same_count k j same)) ∙ at in
        let count : j ≡ 0 + j = omega arith in
        let made = has_number 0 path units j unit (is ∙ ap Some count) at_j in
        absurd (let both : true ≡ false = sym made ∙ not in cc)

    found : (o : Option ℕ) → number_from 0 path units ≡ o → makes path unit ≡ false → false ≡ is_number k o
    found None is not = refl
    found (Some j) is not = split j is not (cases_Bool (k == j))

    by : (t : Bool) → makes path unit ≡ t → t ≡ is_number k (unit_of units path)
    by true made =
        sym (ap (is_number k) (sym (same_number 0 path units) ∙ order.one k unit path at made) ∙ itself k k refl)
    by false not = found (number_from 0 path units) refl not ∙ ap (is_number k) (same_number 0 path units)

makes_any_same : (units : List Unit) → InOrder units → (k : ℕ) (unit : Unit) → slice_get units k ≡ Some unit
    → (paths : List (List ℕ)) →
    list_any (λ path. makes path unit) paths ≡ makes_one units paths k
makes_any_same units order k unit at [] = refl
makes_any_same units order k unit at (path ∷ paths) =
    ap (λ t. t || list_any (λ p. makes p unit) paths) (makes_same units order k unit path at)
    ∙ ap (λ t. is_number k (unit_of units path) || t) (makes_any_same units order k unit at paths)

-- ---- what is found among the units that are needed

-- the object of a unit, where it is one of these
abbrev at_place : Build → List ℕ → Option ℕ → Option ℕ
at_place build numbers None = None
at_place build numbers (Some m) = only_where (is_in numbers m) (object_of (came_to build m))

or_nothing : (o : Option ℕ) → option_or o None ≡ o
or_nothing None = refl
or_nothing (Some n) = refl

or_itself : (y : Bool) (o : Option ℕ) → option_or o (only_where y o) ≡ o
or_itself true None = refl
or_itself true (Some n) = refl
or_itself false o = or_nothing o

one_more : (build : Build) (k : ℕ) (numbers : List ℕ) (place : Option ℕ) →
    option_or (only_where (is_number k place) (object_of (came_to build k))) (at_place build numbers place)
    ≡ at_place build (k ∷ numbers) place
one_more build k numbers None = refl
one_more build k numbers (Some m) = by (cases_Bool (k == m))
  where
    flipped : (k == m) ≡ false → (t : Bool) → (m == k) ≡ t → (m == k) ≡ false
    flipped other true is = absurd (let both : true ≡ false = sym (itself k m (sym (same_count m k is))) ∙ other in cc)
    flipped other false is = is

    by : ((k == m) ≡ true) ⊎ ((k == m) ≡ false) →
        option_or (only_where (k == m) (object_of (came_to build k))) (only_where (is_in numbers m) (object_of (came_to build m)))
        ≡
        only_where ((m == k) || is_in numbers m) (object_of (came_to build m))
    by (inl same) =
        let is : k ≡ m = same_count k m same in
        ap (λ t. option_or (only_where t (object_of (came_to build k)))
        (only_where (is_in numbers m) (object_of (came_to build m)))) same
        ∙ (ap (λ j. option_or (object_of (came_to build j)) (only_where (is_in numbers m) (object_of (came_to build m)))) is
        ∙ (or_itself (is_in numbers m) (object_of (came_to build m))
        ∙ sym (ap (λ t. only_where (t || is_in numbers m) (object_of (came_to build m))) (itself m k (sym is)))))
    by (inr other) =
        ap (λ t. option_or (only_where t (object_of (came_to build k)))
        (only_where (is_in numbers m) (object_of (came_to build m)))) other
        ∙ sym (ap (λ t. only_where (t || is_in numbers m) (object_of (came_to build m))) (flipped other (m == k) refl))

none_found : (build : Build) (place : Option ℕ) → None ≡ at_place build [] place
none_found build None = refl
none_found build (Some m) = refl

found_at : (build : Build) → InOrder build.units → (path : List ℕ) (n : ℕ) → n ≤ length build.units → (paths : List (List ℕ)) →
    object_before build paths n path ≡ at_place build (needed_units build.units n paths) (unit_of build.units path)
found_at build order path zero within paths = none_found build (unit_of build.units path)
found_at build order path (suc k) within paths =
    let unit = get_or build.units k nobody in
    let lt : k < length build.units = omega (arith, within) in
    let at : slice_get build.units k ≡ Some unit = slice_get-get_or build.units k nobody lt in
    let is : unit ≡ get_or build.units k unit = sym (get_or_from_slice_get build.units k unit unit at) in
    let place = unit_of build.units path in
    elim (cases_Bool (makes_one build.units paths k)) [
      | inl made ↦
          ap (λ n. object_before build paths n path) (sym (add-one k))
          ∙ (taken build paths k path unit lt is (makes_any_same build.units order k unit at paths ∙ made)
          ∙ (ap (λ t. option_or (only_where t (object_of (came_to build k)))
          (object_before build (paths ++ unit.prerequisites) k path)) (makes_same build.units order k unit path at)
          ∙ (ap (λ more. option_or (only_where (is_number k place) (object_of (came_to build k)))
          (object_before build (paths ++ more) k path)) (sym (ap prerequisites_of at))
          ∙ (ap (option_or (only_where (is_number k place) (object_of (came_to build k))))
          (found_at build order path k (omega (arith, within)) (paths ++ prerequisites_at build.units k))
          ∙ (one_more build k (needed_units build.units k (paths ++ prerequisites_at build.units k)) place
          ∙ sym (ap (λ l. at_place build l place) (when_made build.units k paths made)))))))
      | inr not ↦
          ap (λ n. object_before build paths n path) (sym (add-one k))
          ∙ (passed build paths k path unit lt is (makes_any_same build.units order k unit at paths ∙ not)
          ∙ (found_at build order path k (omega (arith, within)) paths
          ∙ sym (ap (λ l. at_place build l place) (when_not build.units k paths not))))
    ]

marked_at : (build : Build) (n : ℕ) (marks : List Bool) → AreNeeds build n marks → (one two : Option ℕ) → one ≡ two →
    option_and_then (λ m. only_where (is_marked marks m) (object_of (came_to build m))) one
    ≡ at_place build (closure_of build.units n) two
marked_at build n marks needs None None same = refl
marked_at build n marks needs (Some m) (Some k) same =
    let is : m ≡ k = cc in
    ap (λ t. only_where t (object_of (came_to build m))) (needs.needed m)
    ∙ ap (λ j. only_where (is_in (closure_of build.units n) j) (object_of (came_to build j))) is
marked_at build n marks needs None (Some k) same = absurd (cc)
marked_at build n marks needs (Some m) None same = absurd (cc)

-- What a unit finds by the marks of the units that it stands on is what it finds among those that it needs.
pub seen_object : (build : Build) (n : ℕ) (unit : Unit) (marks : List Bool) (path : List ℕ) → unit_at build n ≡ Some unit
    → AreNeeds build n marks →
    object_marked build marks path ≡ object_before build unit.prerequisites n path
seen_object build n unit marks path at needs =
    let lt = slice_get_within build.units n unit at in
    marked_at build n marks needs (unit_with build path) (unit_of build.units path) (same_number 0 path build.units)
    ∙ sym (ap (λ paths. object_before build paths n path) (sym (ap prerequisites_of at))
    ∙ found_at build needs.in_order path n (omega (arith, lt)) (prerequisites_at build.units n))

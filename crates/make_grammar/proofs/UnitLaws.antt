-- The units of a build are in order, and formed.
use Rattle.std.proofs.Common.{◌≡◌, refl, sym, ap, ◌∙◌, subst, ℕ, zero, suc, ◌+◌, ◌<◌, Bool, true, false, nat_lt, Option, Some}
use Rattle.std.proofs.Common.{None, Result, Ok, Err, option_map, List, [], ◌∷◌, length, map, find, flat_map, filter_map}
use Rattle.std.proofs.Common.{slice_get, if◌then◌else◌, arith, zero-add}
use Rattle.std.proofs.lemmas.Bool.{ltb-false}
use Rattle.std.proofs.lemmas.Option.{slice_get_within, slice_get-map}
use Rattle.std.specs.List.{AllByRecursion, cons_option}
use Rattle.cc_names.specs.declared.units.Unit.{Unit}
use Rattle.make_grammar.proofs.NumberLaws.{IsNumbered, numbered, number_is}
use Rattle.make_grammar.proofs.ServingLaws.{IsServing, servings_apart, servings_formed}
use Rattle.make_grammar.proofs.WalkLaws.{IsSettled, walk_settles}
use Rattle.make_grammar.specs.Contents.{Contents, unless_too_long, expansion}
use Rattle.make_grammar.specs.Graphs.{first_of, first_target, script_for, unit_of, missing_goal, units_walked, unless_cycle}
use Rattle.make_grammar.specs.Graphs.{unless_missing}
use Rattle.make_grammar.specs.declared.contents.Expanded.TheVariants.{TooLong, Lines}
use Rattle.make_grammar.specs.Macros.{Expansion, is_among, expansion_of, in_script, expansion_limit, is_too_long}
use Rattle.make_grammar.specs.Numbers.{number_from}
use Rattle.make_grammar.specs.Serving.{servings}
use Rattle.make_grammar.specs.Rules.{Serving}
use Rattle.make_grammar.specs.Units.{script_of_unit, goals_of, made_by, unless_source}
use Rattle.make_grammar.specs.UnitLaws.{IsFormedMakefile, IsShort, IsUnit, InOrder, made_by_unit, UnitsInOrder, UnitsFormed}
use Rattle.make_grammar.specs.Walks.{Walk, number_of, prerequisites_at, walk_of}

-- ---- the first that has a path

first_number : {A : Type 0} (targets : A → List (List ℕ)) (n : ℕ) (path : List ℕ) (xs : List A) (k : ℕ) (x : A)
    → slice_get xs k ≡ Some x → is_among (targets x) path ≡ true →
    ((j : ℕ) (y : A) → j < k → slice_get xs j ≡ Some y → is_among (targets y) path ≡ true → ⊥)
    → number_from targets n path xs ≡ Some (n + k)
first_number targets n path [] k x at has first = absurd (cc)
first_number targets n path (y ∷ ys) zero x at has first =
    let same : y ≡ x = cc in
    let here = ap (λ z. is_among (targets z) path) same ∙ has in
    rw (here, number_from) (ap Some (omega arith))
first_number {A} targets n path (y ∷ ys) (suc k) x at has first = by (is_among (targets y) path) refl
    (first_number targets (n + 1) path ys k x at has (λ j z lt. first (suc j) z (omega (arith, lt))))
  where
    by : (t : Bool) → is_among (targets y) path ≡ t → number_from targets (n + 1) path ys ≡ Some (n + 1 + k) →
        elim t as (λ b. Option ℕ) [ true ↦ Some n | false ↦ number_from targets (n + 1) path ys ] ≡ Some (n + suc k)
    by true is rest = absurd (first 0 y (omega arith) refl is)
    by false is rest = rest ∙ ap Some (omega arith)

-- ---- the units of an order

-- a unit of an order, and what it was made of
record IsWalked (make : Contents) (units : List Serving) (order : List ℕ) (k : ℕ) (unit : Unit) : Type 0 where
  number : ℕ
  serving : Serving
  at : slice_get order k ≡ Some number
  has : slice_get units number ≡ Some serving
  is : unit_of make serving ≡ unit

taken_at : (units : List Serving) (order : List ℕ) (k : ℕ) (s : Serving)
    → ((j n : ℕ) → slice_get order j ≡ Some n → (t : Serving) × (slice_get units n ≡ Some t))
    → slice_get (filter_map (slice_get units) order) k ≡ Some s →
    (n : ℕ) × ((slice_get order k ≡ Some n) × (slice_get units n ≡ Some s))
taken_at units [] k s within h = absurd (cc)
taken_at units (n ∷ order) zero s within h =
    let here = within 0 n refl in
    let e : slice_get (filter_map (slice_get units) (n ∷ order)) 0 ≡ Some here.0 =
    ap (λ o. slice_get (cons_option o (filter_map (slice_get units) order)) 0) here.1 in
    (n, (refl, here.1 ∙ (sym e ∙ h)))
taken_at units (n ∷ order) (suc k) s within h =
    let here = within 0 n refl in
    let e : slice_get (filter_map (slice_get units) (n ∷ order)) (suc k) ≡ slice_get (filter_map (slice_get units) order) k =
    ap (λ o. slice_get (cons_option o (filter_map (slice_get units) order)) (suc k)) here.1 in
    taken_at units order k s (λ j m. within (suc j) m) (sym e ∙ h)

-- the numbers of a settled order are those of units
in_range : (units : List Serving) (w : Walk) → IsSettled units w → (j n : ℕ) → slice_get w.order j ≡ Some n → (t : Serving)
    × (slice_get units n ≡ Some t)
in_range units w settled j n at =
    let lt : n < length w.marks = slice_get_within w.marks n _ (settled.done j n at) in
    some units n (omega (arith, lt, settled.size))
  where
    some : (us : List Serving) (m : ℕ) → m < length us → (t : Serving) × (slice_get us m ≡ Some t)
    some [] m lt = absurd (omega (arith, lt))
    some (u ∷ us) zero lt = (u, refl)
    some (u ∷ us) (suc m) lt = some us m (omega (arith, lt))

walked_at : (make : Contents) (units : List Serving) (w : Walk) → IsSettled units w → (k : ℕ) (unit : Unit)
    → slice_get (units_walked make units w.order) k ≡ Some unit → IsWalked make units w.order k unit
walked_at make units w settled k unit h = by (slice_get (filter_map (slice_get units) w.order) k) refl
    (sym (slice_get-map (unit_of make) (filter_map (slice_get units) w.order) k) ∙ h)
  where
    by : (o : Option Serving) → slice_get (filter_map (slice_get units) w.order) k ≡ o → option_map (unit_of make) o ≡ Some unit
        → IsWalked make units w.order k unit
    by None is h = absurd (cc)
    by (Some s) is h =
        let there = taken_at units w.order k s (in_range units w settled) is in
        record { number = there.0; serving = s; at = there.1.0; has = there.1.1; is = cc }

-- ---- in order

order_of : (make : Contents) (is_file : List ℕ → Bool) (goals : List (List ℕ)) (w : Walk) → IsFormedMakefile make
    → IsSettled (servings make is_file goals) w → InOrder (units_walked make (servings make is_file goals) w.order)
order_of make is_file goals w formed settled = record {
  one = λ n unit path at has. one n unit path has (walked_at make units w settled n unit at) at;
  earlier = λ n m unit path at among found. earlier n m path unit among (walked_at make units w settled n unit at)
      (numbered made_by_unit 0 path (units_walked make units w.order) m found);
}
  where
    units : List Serving
    units = servings make is_file goals

    -- what has the path has its number
    number : (path : List ℕ) (k : ℕ) (unit : Unit) → is_among unit.targets path ≡ true → (u : IsWalked make units w.order k unit)
        → number_of units path ≡ Some u.number
    number path k unit has u =
        number_is (λ (s : Serving). s.targets) 0 path units u.number u.serving (servings_apart make is_file goals formed) u.has
        (ap (λ (v : Unit). is_among v.targets path) u.is ∙ has)
        ∙ ap Some (zero-add u.number)

    one : (n : ℕ) (unit : Unit) (path : List ℕ) → is_among unit.targets path ≡ true → IsWalked make units w.order n unit
        → slice_get (units_walked make units w.order) n ≡ Some unit → number_from made_by_unit 0 path
        (units_walked make units w.order) ≡ Some n
    one n unit path has u at =
        first_number made_by_unit 0 path (units_walked make units w.order) n unit at has
        (λ j other lt at_j has_j.
        let v = walked_at make units w settled j other at_j in
        let same : v.number ≡ u.number = cc (number path j other has_j v, number path n unit has u) in
        let both : j ≡ n = settled.once j n u.number (v.at ∙ ap Some same) u.at in
        omega (arith, both, lt))
        ∙ ap Some (zero-add n)

    earlier : (n m : ℕ) (path : List ℕ) (unit : Unit) → is_among unit.prerequisites path ≡ true
        → IsWalked make units w.order n unit → IsNumbered made_by_unit 0 path (units_walked make units w.order) m → m < n
    earlier n m path unit among u found =
        let v = walked_at make units w settled found.place found.item found.at in
        let numbered_v = number path found.place found.item found.has v in
        let among_u = ap (λ (o : Option Serving). is_among (prerequisites_at o) path) u.has
        ∙ (ap (λ (x : Unit). is_among x.prerequisites path) u.is ∙ among) in
        let before = settled.behind n u.number v.number path u.at among_u numbered_v in
        let same : before.0 ≡ found.place = settled.once before.0 found.place v.number before.1.1 v.at in
        let lt : before.0 < n = before.1.0 in
        omega (arith, lt, same, found.is)

-- ---- the units that were not refused are those of the walk

record IsWalkOf (make : Contents) (units : List Serving) (goals : List (List ℕ)) (us : List Unit) : Type 0 where
  walk : Walk
  is : walk_of units goals ≡ Ok walk
  made : units_walked make units walk.order ≡ us

source_is : (o : Option (List ℕ)) (us made : List Unit) → unless_source o us ≡ Ok made → us ≡ made
source_is None us made h = cc
source_is (Some target) us made h = absurd (cc)

cycle_is : (make : Contents) (units : List Serving) (is_file : List ℕ → Bool) (goals : List (List ℕ)) (us : List Unit)
    (r : Result Walk (List ℕ)) → walk_of units goals ≡ r → unless_cycle make units is_file r ≡ Ok us
    → IsWalkOf make units goals us
cycle_is make units is_file goals us (Err path) is h = absurd (cc)
cycle_is make units is_file goals us (Ok w) is h =
    record {
      walk = w;
      is = is;
      made = source_is (find is_file (flat_map made_by (units_walked make units w.order)))
          (units_walked make units w.order) us h;
    }

missing_is : (make : Contents) (units : List Serving) (is_file : List ℕ
    → Bool) (goals : List (List ℕ)) (us : List Unit) (o : Option (List ℕ)) → unless_missing make units is_file goals o ≡ Ok us
    → IsWalkOf make units goals us
missing_is make units is_file goals us None h = cycle_is make units is_file goals us (walk_of units goals) refl h
missing_is make units is_file goals us (Some goal) h = absurd (cc)

-- The units of a build are in order.
pub units_in_order : UnitsInOrder
units_in_order make goals is_file us formed h =
    let of = servings make is_file (goals_of make.rules goals) in
    let w = missing_is make of is_file (goals_of make.rules goals) us (missing_goal of is_file (goals_of make.rules goals)) h in
    subst InOrder w.made (order_of make is_file (goals_of make.rules goals) w.walk formed
    (walk_settles of (goals_of make.rules goals) w.walk w.is).settled)

-- ---- the form of units

short_within : (total : Expansion) → IsShort (script_of_unit (unless_too_long total))
short_within total = by (is_too_long total) refl
  where
    by : (t : Bool) → nat_lt expansion_limit (length total.bytes) ≡ t → IsShort
        (script_of_unit (if t then TooLong else Lines total.bytes))
    by true test = tt
    by false test = ltb-false _ _ test

-- an expanded script is within the limit
short_script : (make : Contents) (script target : List ℕ) (first : Option (List ℕ)) (stem : List ℕ)
    → IsShort (script_of_unit (expansion make script target first stem))
short_script make script target first stem = short_within (expansion_of make.macros (in_script target first stem) script)

unit_formed : (make : Contents) (s : Serving) → IsServing s → IsUnit (unit_of make s)
unit_formed make s formed = record { targets = formed.targets; prerequisites = formed.prerequisites; script = by s.script }
  where
    by : (script : Option (List ℕ)) → IsShort (script_for make s script)
    by None = tt
    by (Some script) = short_script make script (first_target s.targets) (first_of s.prerequisites) s.stem

all_taken : (units : List Serving) (order : List ℕ) → AllByRecursion IsServing units
    → AllByRecursion IsServing (filter_map (slice_get units) order)
all_taken units [] h = tt
all_taken units (n ∷ order) h = by (slice_get units n) (λ s is. formed_at units n s h is) (all_taken units order h)
  where
    formed_at : (us : List Serving) (m : ℕ) (s : Serving) → AllByRecursion IsServing us → slice_get us m ≡ Some s → IsServing s
    formed_at [] m s all is = absurd (cc)
    formed_at (u ∷ us) zero s all is = let same : u ≡ s = cc in subst IsServing same all.0
    formed_at (u ∷ us) (suc m) s all is = formed_at us m s all.1 is

    by : (o : Option Serving) → ((s : Serving) → o ≡ Some s → IsServing s)
        → AllByRecursion IsServing (filter_map (slice_get units) order)
        → AllByRecursion IsServing (cons_option o (filter_map (slice_get units) order))
    by None formed rest = rest
    by (Some s) formed rest = (formed s refl, rest)

all_units : (make : Contents) (ss : List Serving) → AllByRecursion IsServing ss → AllByRecursion IsUnit (map (unit_of make) ss)
all_units make [] h = tt
all_units make (s ∷ ss) h = (unit_formed make s h.0, all_units make ss h.1)

-- Each unit of a build is formed.
pub units_formed : UnitsFormed
units_formed make goals is_file us formed h =
    let of = servings make is_file (goals_of make.rules goals) in
    let w = missing_is make of is_file (goals_of make.rules goals) us (missing_goal of is_file (goals_of make.rules goals)) h in
    subst (AllByRecursion IsUnit) w.made (all_units make (filter_map (slice_get of) w.walk.order)
    (all_taken of w.walk.order (servings_formed make is_file (goals_of make.rules goals) formed)))

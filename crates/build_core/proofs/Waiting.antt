-- What a unit waits for, by the numbers of the units that make its prerequisites.
use Rattle.std.proofs.Common.{◌≡◌, ℕ, zero, suc, ◌<◌, Bool, true, false, not, cond, ◌&&◌, Option, Some, None, IfSome, List, []}
use Rattle.std.proofs.Common.{◌∷◌, length, refl, ap, sym, ◌∙◌, arith}
use Rattle.std.specs.List.{list_all, cons_option}
use Rattle.std.specs.Prelude.{find, slice_get}
use Rattle.std.specs.Option.{option_or}
use Rattle.cc_names.proofs.Common.{and_false}
use Rattle.make_graph.specs.Waits.{makers_of}
use Rattle.legal_history.specs.Builds.Active.{Build, came_to, is_outcome, unit_with}
use Rattle.legal_history.specs.Builds.Turns.{is_over}
use Rattle.legal_history.proofs.Builds.OrderedUnits.{same_number}
use Rattle.build_core.specs.UnitSteps.{unless_over, awaited_unit, first_awaited}
use Rattle.build_core.proofs.UnitNumbers.{within}

-- the first of the makers of paths that has no outcome is the first unit that is awaited
pub awaited_maker : (build : Build) (paths : List (List ℕ))
    → find (λ n. not (is_outcome (came_to build n))) (makers_of build.units paths) ≡ first_awaited build paths
awaited_maker build [] = refl
awaited_maker build (path ∷ paths) =
    ap (λ o. find (λ n. not (is_outcome (came_to build n))) (cons_option o (makers_of build.units paths)))
    (sym (same_number 0 path build.units))
    ∙ by_number (unit_with build path) (awaited_maker build paths)
  where
    by_outcome : (over : Bool) (n : ℕ) (one other : Option ℕ) → one ≡ other
        → cond (not over) (Some n) one ≡ option_or (unless_over over n) other
    by_outcome true n one other rest = rest
    by_outcome false n one other rest = refl

    by_number : (o : Option ℕ)
        → find (λ n. not (is_outcome (came_to build n))) (makers_of build.units paths) ≡ first_awaited build paths
        → find (λ n. not (is_outcome (came_to build n))) (cons_option o (makers_of build.units paths))
        ≡ option_or (awaited_unit build o) (first_awaited build paths)
    by_number None rest = rest
    by_number (Some n) rest = by_outcome (is_outcome (came_to build n)) n _ _ rest

-- a unit that is awaited is one of the build
one_within : (over : Bool) (n m end : ℕ) (later : Option ℕ) → n < end → (later ≡ Some m → m < end)
    → option_or (unless_over over n) later ≡ Some m → m < end
one_within true n m end later here rest e = rest e
one_within false n m end later here rest e = let same : n ≡ m = cc in omega (arith, same, here)

is_within : (build : Build) (paths : List (List ℕ)) (m : ℕ) → first_awaited build paths ≡ Some m → m < length build.units
is_within build [] m e = absurd (cc)
is_within build (path ∷ paths) m e =
    by_number (unit_with build path) (within path build.units) (λ later. is_within build paths m later) e
  where
    by_number : (o : Option ℕ) → IfSome o (λ n. n < length build.units)
        → (first_awaited build paths ≡ Some m → m < length build.units)
        → option_or (awaited_unit build o) (first_awaited build paths) ≡ Some m → m < length build.units
    by_number None here rest e = rest e
    by_number (Some n) here rest e =
        one_within (is_outcome (came_to build n)) n m (length build.units) (first_awaited build paths) here rest e

pub awaited_within : (build : Build) (paths : List (List ℕ)) → IfSome (first_awaited build paths) (λ m. m < length build.units)
awaited_within build paths = by (first_awaited build paths) refl
  where
    by : (o : Option ℕ) → first_awaited build paths ≡ o → IfSome o (λ m. m < length build.units)
    by None e = tt
    by (Some m) e = is_within build paths m e

both_none : {A : Type 0} (one two : Option A) → option_or one two ≡ None → (one ≡ None) × (two ≡ None)
both_none None two e = (refl, e)
both_none (Some a) two e = absurd (cc)

over_here : (over : Bool) (n : ℕ) → unless_over over n ≡ None → over ≡ true
over_here true n e = refl
over_here false n e = absurd (cc)

over_unit : (build : Build) (place : Option ℕ) → awaited_unit build place ≡ None → is_over build place ≡ true
over_unit build None e = refl
over_unit build (Some n) e = over_here (is_outcome (came_to build n)) n e

-- a unit that waits for none is ready
pub awaits_none : (build : Build) (paths : List (List ℕ)) → first_awaited build paths ≡ None
    → list_all (λ path. is_over build (unit_with build path)) paths ≡ true
awaits_none build [] e = refl
awaits_none build (path ∷ paths) e =
    let parts = both_none (awaited_unit build (unit_with build path)) (first_awaited build paths) e in
    ap (λ here. here && list_all (λ path. is_over build (unit_with build path)) paths)
    (over_unit build (unit_with build path) parts.0)
    ∙ awaits_none build paths parts.1

-- where the makers of paths have their outcomes, none of the paths keeps anybody waiting
pub makers_over : (build : Build) (paths : List (List ℕ))
    → list_all (λ n. is_outcome (came_to build n)) (makers_of build.units paths)
    ≡ list_all (λ path. is_over build (unit_with build path)) paths
makers_over build [] = refl
makers_over build (path ∷ paths) =
    ap (λ o. list_all (λ n. is_outcome (came_to build n)) (cons_option o (makers_of build.units paths)))
    (sym (same_number 0 path build.units))
    ∙ by (unit_with build path) (makers_over build paths)
  where
    by : (o : Option ℕ) → list_all (λ n. is_outcome (came_to build n)) (makers_of build.units paths)
        ≡ list_all (λ path. is_over build (unit_with build path)) paths
        → list_all (λ n. is_outcome (came_to build n)) (cons_option o (makers_of build.units paths))
        ≡ (is_over build o && list_all (λ path. is_over build (unit_with build path)) paths)
    by None rest = rest
    by (Some n) rest = ap (λ later. is_outcome (came_to build n) && later) rest

same_number_of : (one other : ℕ) → Some one ≡ Some other → one ≡ other
same_number_of one other e = cc

-- where one unit has no outcome, not all have
pub one_is_not_over : (build : Build) (units : List ℕ) (i n : ℕ) → slice_get units i ≡ Some n
    → is_outcome (came_to build n) ≡ false → list_all (λ n. is_outcome (came_to build n)) units ≡ false
one_is_not_over build [] i n at over = absurd (cc)
one_is_not_over build (one ∷ rest) zero n at over =
    ap (λ here. here && list_all (λ n. is_outcome (came_to build n)) rest)
    (ap (λ n. is_outcome (came_to build n)) (same_number_of one n at) ∙ over)
one_is_not_over build (one ∷ rest) (suc i) n at over =
    ap (λ later. is_outcome (came_to build one) && later) (one_is_not_over build rest i n at over)
    ∙ and_false (is_outcome (came_to build one))

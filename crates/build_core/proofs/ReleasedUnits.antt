-- The units that a unit has released are those of its dependants that can be driven.
use Rattle.std.proofs.Common.{◌≡◌, ℕ, ◌==◌, Bool, true, false, not, ◌&&◌, ◌||◌, cond, Option, Some, None, List, [], ◌∷◌, length}
use Rattle.std.proofs.Common.{◌<◌, get_or, refl, ap, ap₂, sym, ◌∙◌, arith}
use Rattle.std.specs.Prelude.{unwrap_or, option_map}
use Rattle.std.specs.List.{filter, list_all, list_any, range_with_len}
use Rattle.std.proofs.lemmas.Bool.Decides.{nat_tests}
use Rattle.std.proofs.lemmas.Option.{slice_get-get_or}
use Rattle.cc_names.specs.Versions.{is_number}
use Rattle.cc_names.specs.declared.units.Unit.{Unit}
use Rattle.make_graph.specs.Waits.{makes_one, makers_of, prerequisites_of, prerequisites_at, dependants_of}
use Rattle.legal_history.specs.Builds.Active.{Build, came_to, is_outcome, unit_at, unit_with}
use Rattle.legal_history.specs.Builds.Turns.{is_unit_ready}
use Rattle.legal_history.proofs.Builds.OrderedUnits.{same_number}
use Rattle.clearmake.specs.Calls.{needs, is_released}
use Rattle.build_core.specs.Releasing.{can_be_driven}
use Rattle.build_core.proofs.NeededUnits.{nobody}
use Rattle.build_core.proofs.Waiting.{makers_over}

-- two tests one after the other are one
filter_both : {A : Type 0} (one two both : A → Bool) → ((a : A) → (one a && two a) ≡ both a) → (list : List A)
    → filter two (filter one list) ≡ filter both list
filter_both one two both same [] = refl
filter_both one two both same (a ∷ list) = by (filter_both one two both same list) (one a) (two a) refl refl
  where
    by : filter two (filter one list) ≡ filter both list → (first second : Bool) → one a ≡ first → two a ≡ second
        → filter two (filter one (a ∷ list)) ≡ filter both (a ∷ list)
    by rest true true is also =
        ap (λ b. filter two (cond b (a ∷ filter one list) (filter one list))) is
        ∙ ap (λ b. cond b (a ∷ filter two (filter one list)) (filter two (filter one list))) also
        ∙ ap (λ l. a ∷ l) rest
        ∙ sym (ap (λ b. cond b (a ∷ filter both list) (filter both list)) (sym (same a) ∙ ap₂ ◌&&◌ is also))
    by rest true false is also =
        ap (λ b. filter two (cond b (a ∷ filter one list) (filter one list))) is
        ∙ ap (λ b. cond b (a ∷ filter two (filter one list)) (filter two (filter one list))) also
        ∙ rest
        ∙ sym (ap (λ b. cond b (a ∷ filter both list) (filter both list)) (sym (same a) ∙ ap₂ ◌&&◌ is also))
    by rest false second is also =
        ap (λ b. filter two (cond b (a ∷ filter one list) (filter one list))) is
        ∙ rest
        ∙ sym (ap (λ b. cond b (a ∷ filter both list) (filter both list)) (sym (same a) ∙ ap (λ b. b && two a) is))

-- a unit makes a path alike in both words
is_maker : (n : ℕ) (maker : Option ℕ) → is_number n maker ≡ unwrap_or (option_map (λ m. m == n) maker) false
is_maker n None = refl
is_maker n (Some m) = grind (arith, nat_tests)

needs_by_paths : (build : Build) (n : ℕ) (paths : List (List ℕ)) → makes_one build.units paths n
    ≡ list_any (λ path. unwrap_or (option_map (λ m. m == n) (unit_with build path)) false) paths
needs_by_paths build n [] = refl
needs_by_paths build n (path ∷ paths) =
    ap₂ ◌||◌ (ap (is_number n) (sym (same_number 0 path build.units)) ∙ is_maker n (unit_with build path))
    (needs_by_paths build n paths)

-- of the units that need it, those that can be driven are released
needs_and_driven : (needed over ready : Bool) → (needed && (not over && ready)) ≡ (not over && (needed && ready))
needs_and_driven true over ready = refl
needs_and_driven false true ready = refl
needs_and_driven false false ready = refl

released_one : (build : Build) (n m : ℕ) → (makes_one build.units (prerequisites_at build.units m) n && can_be_driven build m)
    ≡ is_released build n m
released_one build n m = by (unit_at build m)
  where
    by : (unit : Option Unit) → (makes_one build.units (prerequisites_of unit) n
        && (not (is_outcome (came_to build m)) && unwrap_or (option_map (is_unit_ready build) unit) false))
        ≡ (not (is_outcome (came_to build m)) && unwrap_or (option_map (λ unit. needs build n unit && is_unit_ready build unit)
        unit) false)
    by None = needs_and_driven false (is_outcome (came_to build m)) false
    by (Some unit) =
        ap (λ needed. needed && (not (is_outcome (came_to build m)) && is_unit_ready build unit))
        (needs_by_paths build n unit.prerequisites)
        ∙ needs_and_driven (needs build n unit) (is_outcome (came_to build m)) (is_unit_ready build unit)

pub released_are : (build : Build) (n : ℕ) → filter (can_be_driven build) (dependants_of build.units n)
    ≡ filter (is_released build n) (range_with_len 0 (length build.units))
released_are build n =
    filter_both (λ m. makes_one build.units (prerequisites_at build.units m) n) (can_be_driven build) (is_released build n)
    (released_one build n) (range_with_len 0 (length build.units))

-- a unit is ready where those that make its prerequisites have their outcomes
pub ready_by_makers : (build : Build) (n : ℕ) → n < length build.units
    → list_all (λ m. is_outcome (came_to build m)) (makers_of build.units (prerequisites_at build.units n))
    ≡ unwrap_or (option_map (is_unit_ready build) (unit_at build n)) false
ready_by_makers build n within = by (unit_at build n) (slice_get-get_or build.units n nobody within)
  where
    by : (o : Option Unit) → o ≡ Some (get_or build.units n nobody)
        → list_all (λ m. is_outcome (came_to build m)) (makers_of build.units (prerequisites_of o))
        ≡ unwrap_or (option_map (is_unit_ready build) o) false
    by None is = absurd (cc)
    by (Some unit) is = makers_over build unit.prerequisites

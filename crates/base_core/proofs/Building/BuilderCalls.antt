-- What builders ask of a lane's build is asked of the one that is kept.
use Rattle.std.proofs.Common.{◌≡◌, ℕ, ◌<◌, Some, List, [], length, ap, sym, subst, ◌∙◌, arith}
use Rattle.std.specs.Prelude.{option_and_then, option_map, unwrap_or}
use Rattle.std.specs.List.{filter, range_with_len}
use Rattle.std.proofs.lemmas.Option.{slice_get_within}
use Rattle.build_script.specs.declared.files.Got.{Got}
use Rattle.base_model.specs.Rows.{Base}
use Rattle.legal_history.specs.Builds.Active.{Build, build_of}
use Rattle.legal_history.specs.Stories.States.{State}
use Rattle.clearmake.specs.Calls.{IsBuilding, WasStarted, is_released, released_units}
use Rattle.clearmake.specs.FoundTexts.{IsFetched, sees, standing_at}
use Rattle.story_log.proofs.Cases.{some_same}

-- a unit that was started is one of the build
pub started_within : (s : State) (lane n : ℕ) (build : Build) → build_of s.active lane ≡ Some build → WasStarted s lane n
    → n < length build.units
started_within s lane n build active started =
    subst (λ b. n < length b.units) (some_same started.build build (sym started.active ∙ active))
    (slice_get_within started.build.units n started.unit started.is_unit)

pub building_within : (s : State) (lane count n : ℕ) (build : Build) → build_of s.active lane ≡ Some build
    → IsBuilding s lane count → n < count → n < length build.units
building_within s lane count n build active builds low =
    subst (λ b. n < length b.units) (some_same builds.build build (sym builds.active ∙ active))
    (omega (arith, low, builds.of_units))

-- what a unit of the build finds is what the unit of the lane sees
pub fetched_so : (s : State) (lane n : ℕ) (path : List ℕ) (b : Base) (build : Build) (got : Got)
    → build_of s.active lane ≡ Some build → b ≡ s.base → IsFetched got (standing_at b build n path)
    → IsFetched got (sees s lane n path)
fetched_so s lane n path b build got active same fetched =
    subst (λ found. IsFetched got (option_and_then (λ build. standing_at s.base build n path) found)) (sym active)
    (subst (λ b. IsFetched got (standing_at b build n path)) same fetched)

-- and so with the units that it has released
pub released_so : (s : State) (lane n : ℕ) (build : Build) (units : List ℕ) → build_of s.active lane ≡ Some build
    → units ≡ filter (is_released build n) (range_with_len 0 (length build.units)) → units ≡ released_units s lane n
released_so s lane n build units active are =
    are ∙ sym (ap (λ found. unwrap_or (option_map (λ build. filter (is_released build n) (range_with_len 0 (length build.units)))
    found) []) active)

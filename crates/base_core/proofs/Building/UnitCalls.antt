-- What the calls on a unit of a lane's build rest on.
use Rattle.std.proofs.Common.{◌≡◌, ℕ, ◌<◌, ◌==◌, ◌||◌, Bool, true, false, Option, Some, None, List, [], ◌∷◌, refl, ap, sym}
use Rattle.std.proofs.Common.{subst, ◌∙◌}
use Rattle.std.specs.Bool.{⊤}
use Rattle.std.specs.Option.{option_or}
use Rattle.std.specs.List.{list_any}
use Rattle.std.specs.Prelude.{IsSome, bytes_eq, find, option_map, unwrap_or}
use Rattle.std.proofs.lemmas.Bool.Decides.{Decides-eqb}
use Rattle.std.proofs.lemmas.Slice.Eq.{bytes_eq-Decides}
use Rattle.cc_names.specs.declared.commands.Command.{Command}
use Rattle.cc_names.specs.declared.occasions.Next.TheVariants as nexts
use Rattle.cc_names.specs.declared.refusals.UnitFault.TheVariants as faults
use Rattle.cc_names.specs.declared.rows.Tag.{Tag}
use Rattle.cc_names.specs.declared.steps.UnitEnd.{UnitEnd}
use Rattle.cc_names.specs.declared.steps.UnitEnd.TheVariants as ends
use Rattle.cc_names.specs.declared.units.Unit.{Unit}
use Rattle.cc_names.specs.declared.units.UnitScript.{UnitScript}
use Rattle.cc_names.specs.declared.units.UnitScript.TheVariants as scripts
use Rattle.build_core.specs.UnitSteps.{Awaits, awaited_unit, first_awaited, unless_over}
use Rattle.base_model.specs.Rows.{Base}
use Rattle.legal_history.specs.Builds.Active.{Build, came_to, is_outcome, unit_at, unit_with}
use Rattle.base_model.specs.Closures.{is_path_among}
use Rattle.legal_history.specs.Builds.Consistency.{IsConsistent}
use Rattle.legal_history.specs.Builds.Serials.{Standing, early_end, first_end, no_directory, no_script, outside, is_missing}
use Rattle.legal_history.specs.Builds.Serials.{is_bad}
use Rattle.legal_history.specs.Stories.Commanded.{next_command_of}
use Rattle.legal_history.specs.Stories.States.{State, next_tag}
use Rattle.legal_history.specs.Builds.UnitTurns.{ComesTo, EndsEarly}
use Rattle.legal_history.specs.Builds.Turns.{early}
use Rattle.clearmake.specs.Nexts.{next_of_lane, next_by}
use Rattle.story_log.proofs.Cases.{some_same}

-- a lane that is to build waits with a command
pub builds_waits : (s : State) (lane : ℕ) (tag : Tag) → next_of_lane s lane ≡ nexts.Build tag → IsSome (next_command_of s lane)
builds_waits s lane tag e = by (next_command_of s lane) refl e
  where
    by : (found : Option Command) → next_command_of s lane ≡ found → next_by found (next_tag s lane) ≡ nexts.Build tag
        → IsSome (next_command_of s lane)
    by None is e = absurd (cc)
    by (Some command) is e = subst IsSome (sym is) refl

-- and so does a lane that is to act
pub acts_waits : (s : State) (lane : ℕ) → next_of_lane s lane ≡ nexts.Act → IsSome (next_command_of s lane)
acts_waits s lane e = by (next_command_of s lane) refl e
  where
    by : (found : Option Command) → next_command_of s lane ≡ found → next_by found (next_tag s lane) ≡ nexts.Act
        → IsSome (next_command_of s lane)
    by None is e = absurd (cc)
    by (Some command) is e = subst IsSome (sym is) refl

-- an end without a run is that of no object and of no script
abbrev IsEarly : UnitEnd → Type 0
IsEarly (ends.Kept id) = ⊥
IsEarly (ends.Failed (faults.Script fault)) = ⊥
IsEarly end = ⊤

-- of two ends in order, each of which is early, the first is early
one_or_rest : (found : Option UnitEnd) (rest : List (Option UnitEnd)) (end : UnitEnd)
    → ((e : UnitEnd) → found ≡ Some e → IsEarly e) → ((e : UnitEnd) → first_end rest ≡ Some e → IsEarly e)
    → first_end (found ∷ rest) ≡ Some end → IsEarly end
one_or_rest None rest end one more e = more end e
one_or_rest (Some other) rest end one more e = one end e

mapped_early : {A : Type 0} (f : A → UnitEnd) (found : Option A) (end : UnitEnd) → ((a : A) → IsEarly (f a))
    → option_map f found ≡ Some end → IsEarly end
mapped_early f None end all e = absurd (cc)
mapped_early f (Some a) end all e = subst IsEarly (some_same (f a) end e) (all a)

no_directory_early : (is_directory : List ℕ → Bool) (targets : List (List ℕ)) (script : UnitScript) (end : UnitEnd)
    → no_directory is_directory targets script ≡ Some end → IsEarly end
no_directory_early is_directory targets scripts.Bare end e = absurd (cc)
no_directory_early is_directory targets scripts.TooLong end e = mapped_early (λ path. ends.Failed (faults.NoDirectory path))
    (outside is_directory targets) end (λ path. tt) e
no_directory_early is_directory targets (scripts.Lines text) end e = mapped_early (λ path. ends.Failed (faults.NoDirectory path))
    (outside is_directory targets) end (λ path. tt) e

no_script_early : (targets : List (List ℕ)) (script : UnitScript) (end : UnitEnd) → no_script targets script ≡ Some end
    → IsEarly end
no_script_early targets scripts.Bare end e = subst IsEarly (some_same ends.Bare end e) tt
no_script_early targets scripts.TooLong end e = subst IsEarly (some_same _ end e) tt
no_script_early targets (scripts.Lines text) end e = absurd (cc)

pub early_is : (is_directory : List ℕ → Bool) (standing : List ℕ → Standing) (unit : Unit) (end : UnitEnd)
    → early_end is_directory standing unit ≡ Some end → IsEarly end
early_is is_directory standing unit end e =
    one_or_rest (no_directory is_directory unit.targets unit.script) _ end
    (no_directory_early is_directory unit.targets unit.script)
    (λ e1 h1. one_or_rest (option_map (λ path. ends.Failed (faults.NoRule path))
    (find (λ path. is_missing (standing path)) unit.prerequisites)) _ e1
    (λ o. mapped_early (λ path. ends.Failed (faults.NoRule path)) _ o (λ path. tt))
    (λ e2 h2. one_or_rest (option_map ends.Blocked (find (λ path. is_bad (standing path)) unit.prerequisites)) _ e2
    (λ o. mapped_early ends.Blocked _ o (λ path. tt))
    (λ e3 h3. one_or_rest (no_script unit.targets unit.script) [] e3 (no_script_early unit.targets unit.script)
    (λ e4 h4. absurd (cc)) h3) h2) h1) e

-- a unit that ends early may be concluded so
pub early_concludes : (s : State) (tag : Tag) (n : ℕ) (end : UnitEnd) → IsEarly end → EndsEarly s tag n end → ComesTo s tag n end
early_concludes s tag n (ends.Kept id) early h = absurd early
early_concludes s tag n (ends.Failed (faults.Script fault)) early h = absurd early
early_concludes s tag n end early h = h

-- one of some paths, which a unit makes
abbrev IsMade : Build → List (List ℕ) → ℕ → Type 0
IsMade build paths m = (path : List ℕ) × (is_path_among path paths ≡ true) × (unit_with build path ≡ Some m)

made_first : (build : Build) (path : List ℕ) (paths : List (List ℕ)) (m : ℕ) → unit_with build path ≡ Some m
    → IsMade build (path ∷ paths) m
made_first build path paths m is = (path, ap (λ b. b || is_path_among path paths) ((bytes_eq-Decides path path).1 refl), is)

made_later : (build : Build) (path : List ℕ) (paths : List (List ℕ)) (m : ℕ) → IsMade build paths m
    → IsMade build (path ∷ paths) m
made_later build path paths m (other, among, is) = (other, by_test (bytes_eq other path), is)
  where
    by_test : (b : Bool) → (b || is_path_among other paths) ≡ true
    by_test true = refl
    by_test false = among

awaited_or : (build : Build) (path : List ℕ) (paths : List (List ℕ)) (m : ℕ) (found : Option ℕ) → unit_with build path ≡ found
    → (first_awaited build paths ≡ Some m → IsMade build paths m) → option_or (awaited_unit build found)
    (first_awaited build paths) ≡ Some m → IsMade build (path ∷ paths) m
awaited_or build path paths m None is rest e = made_later build path paths m (rest e)
awaited_or build path paths m (Some k) is rest e = by_over (is_outcome (came_to build k)) e
  where
    by_over : (over : Bool) → option_or (unless_over over k) (first_awaited build paths) ≡ Some m → IsMade build (path ∷ paths) m
    by_over true e = made_later build path paths m (rest e)
    by_over false e = made_first build path paths m (is ∙ e)

-- a unit that is waited for makes a prerequisite
awaited_is : (build : Build) (paths : List (List ℕ)) (m : ℕ) → first_awaited build paths ≡ Some m → IsMade build paths m
awaited_is build [] m e = absurd (cc)
awaited_is build (path ∷ paths) m e = awaited_or build path paths m (unit_with build path) refl (awaited_is build paths m) e

-- and stands before the unit that waits
pub awaits_earlier : (b : Base) (build : Build) (n m : ℕ) (unit : Unit) → IsConsistent b build → unit_at build n ≡ Some unit
    → Awaits build unit m → m < n
awaits_earlier b build n m unit consistent is awaits =
    let made = awaited_is build unit.prerequisites m awaits.first in
    consistent.in_order.earlier n m unit made.0 is made.1 made.2

abbrev makes : Option ℕ → ℕ → Bool
makes found m = unwrap_or (option_map (λ k. k == m) found) false

abbrev makes_one : Build → ℕ → List (List ℕ) → Bool
makes_one build m paths = list_any (λ path. makes (unit_with build path) m) paths

needed_or : (build : Build) (path : List ℕ) (paths : List (List ℕ)) (m : ℕ) (found : Option ℕ) → unit_with build path ≡ found
    → (first_awaited build paths ≡ Some m → makes_one build m paths ≡ true)
    → option_or (awaited_unit build found) (first_awaited build paths) ≡ Some m → makes_one build m (path ∷ paths) ≡ true
needed_or build path paths m None is rest e = ap (λ found. makes found m || makes_one build m paths) is ∙ rest e
needed_or build path paths m (Some k) is rest e = ap (λ found. makes found m || makes_one build m paths) is
    ∙ by_over (is_outcome (came_to build k)) e
  where
    by_test : (b : Bool) → (b || true) ≡ true
    by_test true = refl
    by_test false = refl

    by_over : (over : Bool) → option_or (unless_over over k) (first_awaited build paths) ≡ Some m
        → ((k == m) || makes_one build m paths) ≡ true
    by_over true e = ap (λ b. (k == m) || b) (rest e) ∙ by_test (k == m)
    by_over false e = ap (λ b. b || makes_one build m paths) ((Decides-eqb k m).1 (some_same k m e))

-- the unit that is waited for makes one of the paths
pub awaits_needed : (build : Build) (paths : List (List ℕ)) (m : ℕ) → first_awaited build paths ≡ Some m
    → makes_one build m paths ≡ true
awaits_needed build [] m e = absurd (cc)
awaits_needed build (path ∷ paths) m e = needed_or build path paths m (unit_with build path) refl (awaits_needed build paths m) e

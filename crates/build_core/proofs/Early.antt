-- What a unit comes to without a run, test by test.
use Rattle.std.proofs.Common.{◌≡◌, ℕ, suc, ◌≤◌, Bool, true, false, ◌||◌, cond, Option, Some, None, List, [], ◌∷◌, length}
use Rattle.std.proofs.Common.{refl, ap, ◌∙◌, arith}
use Rattle.std.specs.List.{list_any, cons_option}
use Rattle.std.specs.Prelude.{find, option_map}
use Rattle.cc_names.specs.declared.refusals.UnitFault.TheVariants.{NoRule}
use Rattle.cc_names.specs.declared.steps.UnitEnd.{UnitEnd}
use Rattle.cc_names.specs.declared.steps.UnitEnd.TheVariants.{Kept, Failed, Blocked, Bare}
use Rattle.cc_names.specs.declared.units.Unit.{Unit}
use Rattle.base_model.specs.Rows.{Base}
use Rattle.legal_history.specs.Builds.Active.{Build, Came, Started, Given, Concluded, came_to, unit_with}
use Rattle.legal_history.specs.Builds.Fresh.{sees_file, sees_directory}
use Rattle.legal_history.specs.Builds.Serials.{Standing, is_missing, is_bad, first_end, no_directory, no_script}
use Rattle.legal_history.specs.Builds.Serials.{standing_of_file, standing_or_file}
use Rattle.legal_history.specs.Builds.Turns.{early_in, standing_of_came, standing_of_unit}
use Rattle.legal_history.proofs.Builds.OrderedUnits.{same_number}
use Rattle.make_graph.specs.Waits.{unit_of, makers_of}

-- what a path is to a unit of the build
abbrev standing : Base → Build → List ℕ → Standing
standing b build path = standing_or_file (sees_file b build.view path) (standing_of_unit build path)

only_last : (end : Option UnitEnd) → first_end (end ∷ []) ≡ end
only_last None = refl
only_last (Some end) = refl

-- the first of four ends
at_first : (a b c d : Option UnitEnd) (end : UnitEnd) → a ≡ Some end → first_end (a ∷ b ∷ c ∷ d ∷ []) ≡ Some end
at_first a b c d end e = ap (λ x. first_end (x ∷ b ∷ c ∷ d ∷ [])) e

at_second : (a b c d : Option UnitEnd) (end : UnitEnd) → a ≡ None → b ≡ Some end → first_end (a ∷ b ∷ c ∷ d ∷ []) ≡ Some end
at_second a b c d end none e = ap (λ x. first_end (x ∷ b ∷ c ∷ d ∷ [])) none ∙ ap (λ x. first_end (x ∷ c ∷ d ∷ [])) e

at_third : (a b c d : Option UnitEnd) (end : UnitEnd) → a ≡ None → b ≡ None → c ≡ Some end
    → first_end (a ∷ b ∷ c ∷ d ∷ []) ≡ Some end
at_third a b c d end one two e =
    ap (λ x. first_end (x ∷ b ∷ c ∷ d ∷ [])) one ∙ ap (λ x. first_end (x ∷ c ∷ d ∷ [])) two ∙ ap (λ x. first_end (x ∷ d ∷ [])) e

at_last : (a b c d : Option UnitEnd) → a ≡ None → b ≡ None → c ≡ None → first_end (a ∷ b ∷ c ∷ d ∷ []) ≡ d
at_last a b c d one two three =
    ap (λ x. first_end (x ∷ b ∷ c ∷ d ∷ [])) one ∙ ap (λ x. first_end (x ∷ c ∷ d ∷ [])) two
    ∙ ap (λ x. first_end (x ∷ d ∷ [])) three ∙ only_last d

pub by_directory : (b : Base) (build : Build) (unit : Unit) (end : UnitEnd) →
    no_directory (sees_directory b build.view) unit.targets unit.script ≡ Some end → early_in b build unit ≡ Some end
by_directory b build unit end e = at_first _ _ _ _ end e

pub by_missing : (b : Base) (build : Build) (unit : Unit) (path : List ℕ) →
    no_directory (sees_directory b build.view) unit.targets unit.script ≡ None
    → find (λ path. is_missing (standing b build path)) unit.prerequisites ≡ Some path →
    early_in b build unit ≡ Some (Failed (NoRule path))
by_missing b build unit path none e =
    at_second _ _ _ _ (Failed (NoRule path)) none (ap (option_map (λ path. Failed (NoRule path))) e)

pub by_bad : (b : Base) (build : Build) (unit : Unit) (path : List ℕ) →
    no_directory (sees_directory b build.view) unit.targets unit.script ≡ None
    → find (λ path. is_missing (standing b build path)) unit.prerequisites ≡ None →
    find (λ path. is_bad (standing b build path)) unit.prerequisites ≡ Some path →
    early_in b build unit ≡ Some (Blocked path)
by_bad b build unit path none known e =
    at_third _ _ _ _ (Blocked path) none (ap (option_map (λ path. Failed (NoRule path))) known) (ap (option_map Blocked) e)

pub by_script : (b : Base) (build : Build) (unit : Unit) →
    no_directory (sees_directory b build.view) unit.targets unit.script ≡ None
    → find (λ path. is_missing (standing b build path)) unit.prerequisites ≡ None →
    find (λ path. is_bad (standing b build path)) unit.prerequisites ≡ None →
    early_in b build unit ≡ no_script unit.targets unit.script
by_script b build unit none known good =
    at_last _ _ _ _ none (ap (option_map (λ path. Failed (NoRule path))) known) (ap (option_map Blocked) good)

-- ---- prerequisites, by the units that make them

-- a unit that has come to something is not missing
never_missing : (came : Option Came) → is_missing (standing_of_came came) ≡ false
never_missing None = refl
never_missing (Some Started) = refl
never_missing (Some (Given id)) = refl
never_missing (Some (Concluded (Kept id))) = refl
never_missing (Some (Concluded (Failed fault))) = refl
never_missing (Some (Concluded (Blocked path))) = refl
never_missing (Some (Concluded Bare)) = refl

few_makers : (units : List Unit) (paths : List (List ℕ)) → length (makers_of units paths) ≤ length paths
few_makers units [] = omega arith
few_makers units (path ∷ paths) = by (unit_of units path) (few_makers units paths)
  where
    by : (o : Option ℕ) → length (makers_of units paths) ≤ length paths
        → length (cons_option o (makers_of units paths)) ≤ suc (length paths)
    by None rest = omega (arith, rest)
    by (Some n) rest = omega (arith, rest)

-- where units make all of the paths, none is missing
pub none_missing : (b : Base) (build : Build) (paths : List (List ℕ)) → length (makers_of build.units paths) ≡ length paths
    → find (λ path. is_missing (standing b build path)) paths ≡ None
none_missing b build [] all = refl
none_missing b build (path ∷ paths) all =
    by (unit_with build path) (λ rest. none_missing b build paths rest)
    (ap (λ o. length (cons_option o (makers_of build.units paths))) (same_number 0 path build.units) ∙ all)
  where
    by : (o : Option ℕ) → (length (makers_of build.units paths) ≡ length paths
        → find (λ path. is_missing (standing b build path)) paths ≡ None)
        → length (cons_option o (makers_of build.units paths)) ≡ suc (length paths)
        → cond (is_missing (standing_or_file (sees_file b build.view path)
        (option_map (λ n. standing_of_came (came_to build n)) o))) (Some path)
        (find (λ path. is_missing (standing b build path)) paths) ≡ None
    by None later all = let few = few_makers build.units paths in absurd (omega (arith, few, all))
    by (Some n) later all =
        ap (λ t. cond t (Some path) (find (λ path. is_missing (standing b build path)) paths)) (never_missing (came_to build n))
        ∙ later (omega (arith, all))

or_none : (one two : Bool) → (one || two) ≡ false → (one ≡ false) × (two ≡ false)
or_none true two e = absurd (cc)
or_none false two e = (refl, e)

file_is_good : (is_file : Bool) → is_bad (standing_of_file is_file) ≡ false
file_is_good true = refl
file_is_good false = refl

-- where none of the units that make the paths failed or was blocked, none of the paths is bad
pub none_bad : (b : Base) (build : Build) (paths : List (List ℕ))
    → list_any (λ n. is_bad (standing_of_came (came_to build n))) (makers_of build.units paths) ≡ false
    → find (λ path. is_bad (standing b build path)) paths ≡ None
none_bad b build [] good = refl
none_bad b build (path ∷ paths) good =
    by (unit_with build path) (λ rest. none_bad b build paths rest)
    (ap (λ o. list_any (λ n. is_bad (standing_of_came (came_to build n))) (cons_option o (makers_of build.units paths)))
    (same_number 0 path build.units) ∙ good)
  where
    by : (o : Option ℕ)
        → (list_any (λ n. is_bad (standing_of_came (came_to build n))) (makers_of build.units paths) ≡ false
        → find (λ path. is_bad (standing b build path)) paths ≡ None)
        → list_any (λ n. is_bad (standing_of_came (came_to build n))) (cons_option o (makers_of build.units paths)) ≡ false
        → cond (is_bad (standing_or_file (sees_file b build.view path) (option_map (λ n. standing_of_came (came_to build n)) o)))
        (Some path) (find (λ path. is_bad (standing b build path)) paths) ≡ None
    by None later good =
        ap (λ t. cond t (Some path) (find (λ path. is_bad (standing b build path)) paths))
        (file_is_good (sees_file b build.view path))
        ∙ later good
    by (Some n) later good =
        let parts = or_none (is_bad (standing_of_came (came_to build n)))
        (list_any (λ n. is_bad (standing_of_came (came_to build n))) (makers_of build.units paths)) good in
        ap (λ t. cond t (Some path) (find (λ path. is_bad (standing b build path)) paths)) parts.0
        ∙ later parts.1

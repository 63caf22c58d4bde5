-- The outcomes of a build's units, one after the other, from nothing: no record, no object, no lane and no thread.
use Rattle.std.specs.Prelude.{not, ℕ, Bool, true, false, Option, Some, None, List, [], ◌∷◌, ◌++◌, find, option_map}
use Rattle.std.specs.Option.{option_or}
use Rattle.std.specs.List.{list_any}
use Rattle.cc_names.specs.declared.refusals.UnitFault.TheVariants.{NoRule, NoDirectory, ScriptTooLong}
use Rattle.cc_names.specs.declared.steps.UnitEnd.{UnitEnd}
use Rattle.cc_names.specs.declared.steps.UnitEnd.TheVariants.{Kept, Failed, Blocked, Bare}
use Rattle.cc_names.specs.declared.units.Unit.{Unit}
use Rattle.cc_names.specs.declared.units.UnitScript.{UnitScript}
use Rattle.cc_names.specs.declared.units.UnitScript.TheVariants as scripts
use Rattle.make_grammar.specs.Graphs.{first_target}
use Rattle.base_model.specs.Rows.{only_where}
use Rattle.base_model.specs.Closures.{is_path_among}
use Rattle.legal_history.specs.Commands.FileLines.{parent}

-- what a path is to a unit that has it as a prerequisite: neither a unit nor a file; a file, or a unit that was made; or
-- a unit that failed or was blocked
pub data Standing : Type 0 where
  Missing : Standing
  Good : Standing
  Bad : Standing

-- whether a path is neither a unit nor a file
abbrev pub is_missing : Standing → Bool
is_missing Missing = true
is_missing standing = false

-- whether a path is a unit that failed or was blocked
abbrev pub is_bad : Standing → Bool
is_bad Bad = true
is_bad standing = false

-- the first of some outcomes
abbrev pub first_end : List (Option UnitEnd) → Option UnitEnd
first_end [] = None
first_end (Some end ∷ ends) = Some end
first_end (None ∷ ends) = first_end ends

-- the first path whose parent is no directory
abbrev pub outside : (List ℕ → Bool) → List (List ℕ) → Option (List ℕ)
outside is_directory [] = None
outside is_directory (path ∷ paths) =
    option_or (only_where (not (is_directory (parent path))) (Some (parent path))) (outside is_directory paths)

-- a unit with a script fails at its first target whose parent is no directory
abbrev pub no_directory : (List ℕ → Bool) → List (List ℕ) → UnitScript → Option UnitEnd
no_directory is_directory targets scripts.Bare = None
no_directory is_directory targets script = option_map (λ path. Failed (NoDirectory path)) (outside is_directory targets)

-- a unit without a script is bare, and one whose script is too long fails
abbrev pub no_script : List (List ℕ) → UnitScript → Option UnitEnd
no_script targets scripts.Bare = Some Bare
no_script targets scripts.TooLong = Some (Failed (ScriptTooLong (first_target targets)))
no_script targets (scripts.Lines text) = None

-- What a unit comes to without a run of its script, the first that applies: a target whose parent is no directory, a
-- prerequisite that is neither a unit nor a file, one that failed or was blocked, no script, or one that is too long.
abbrev pub early_end : (List ℕ → Bool) → (List ℕ → Standing) → Unit → Option UnitEnd
early_end is_directory standing unit =
    first_end (no_directory is_directory unit.targets unit.script
    ∷ option_map (λ path. Failed (NoRule path)) (find (λ path. is_missing (standing path)) unit.prerequisites)
    ∷ option_map Blocked (find (λ path. is_bad (standing path)) unit.prerequisites)
    ∷ no_script unit.targets unit.script ∷ [])

-- what a unit comes to: its outputs, one for each target, or an end without any
pub data Outcome : Type 0 where
  Made : List (List ℕ) → Outcome
  Without : UnitEnd → Outcome

-- a unit with what it came to
pub record Finished : Type 0 where
  pub unit : Unit
  pub outcome : Outcome

-- the unit alone
abbrev pub unit_of : Finished → Unit
unit_of finished = finished.unit

-- a unit with nothing but an end stands well where it has no script
abbrev pub standing_of_end : UnitEnd → Standing
standing_of_end (Kept id) = Good
standing_of_end Bare = Good
standing_of_end (Failed fault) = Bad
standing_of_end (Blocked path) = Bad

-- a unit that was made stands well; another as its end says
abbrev pub standing_of_outcome : Outcome → Standing
standing_of_outcome (Made outputs) = Good
standing_of_outcome (Without end) = standing_of_end end

-- a path that is no unit's
abbrev pub standing_of_file : Bool → Standing
standing_of_file true = Good
standing_of_file false = Missing

-- a unit's standing, or a file's where the path is no unit's
abbrev pub standing_or_file : Bool → Option Standing → Standing
standing_or_file is_file (Some standing) = standing
standing_or_file is_file None = standing_of_file is_file

-- whether a unit has the target
abbrev pub makes : List ℕ → Unit → Bool
makes path unit = is_path_among path unit.targets

-- what a path is where these units are finished
abbrev pub standing_in : (List ℕ → Bool) → List Finished → List ℕ → Standing
standing_in is_file earlier path =
    standing_or_file (is_file path) (option_map (λ finished. standing_of_outcome finished.outcome)
    (find (λ finished. makes path finished.unit) earlier))

-- The units among earlier ones, the last first, that make these paths, and those that these need in turn.
abbrev pub needed_units : {A : Type 0} → (A → Unit) → List (List ℕ) → List A → List A
needed_units unit_of paths [] = []
needed_units unit_of paths (a ∷ earlier) =
    elim (list_any (λ path. makes path (unit_of a)) paths) [
      | true ↦ a ∷ needed_units unit_of (paths ++ (unit_of a).prerequisites) earlier
      | false ↦ needed_units unit_of paths earlier
    ]

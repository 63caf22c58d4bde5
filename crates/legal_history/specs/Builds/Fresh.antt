-- The build from nothing on what a view sees.
use Rattle.std.specs.Prelude.{ℕ, Bool, Option, Some, None, Result, Ok, Err, is_some, List, [], ◌∷◌, reverse}
use Rattle.std.specs.Option.{option_or}
use Rattle.cc_names.specs.Files.{Files}
use Rattle.cc_names.specs.declared.commands.Macro.{Macro}
use Rattle.cc_names.specs.declared.refusals.Refusal.{Refusal}
use Rattle.cc_names.specs.declared.refusals.ScriptFault.{ScriptFault}
use Rattle.cc_names.specs.declared.refusals.UnitFault.TheVariants.{Script}
use Rattle.cc_names.specs.declared.steps.UnitEnd.{UnitEnd}
use Rattle.cc_names.specs.declared.steps.UnitEnd.TheVariants.{Failed}
use Rattle.cc_names.specs.declared.units.Unit.{Unit}
use Rattle.cc_names.specs.declared.units.UnitScript.{UnitScript}
use Rattle.cc_names.specs.declared.units.UnitScript.TheVariants as scripts
use Rattle.script_grammar.specs.Run.{run}
use Rattle.make_grammar.specs.Graphs.{units}
use Rattle.base_model.specs.Rows.{Base}
use Rattle.base_model.specs.Seen.{file_at, directory_at}
use Rattle.legal_history.specs.Builds.Serials.{Outcome, Made, Without, Finished, unit_of, early_end, standing_in, needed_units}
use Rattle.base_model.specs.Texts.{output_at, text, texts}

-- whether the view sees a file at the path
abbrev pub sees_file : Base → List ℕ → List ℕ → Bool
sees_file b v path = is_some (file_at b v path)

-- whether the view sees a directory at the path
abbrev pub sees_directory : Base → List ℕ → List ℕ → Bool
sees_directory b v path = is_some (directory_at b v path)

-- the text of a unit's script; a unit that is run has one
abbrev pub script_text : UnitScript → List ℕ
script_text (scripts.Lines text) = text
script_text script = []

-- the output of a finished unit at a path
abbrev pub output_of : List ℕ → Unit → Outcome → Option (List ℕ)
output_of path unit (Made outputs) = output_at path unit.targets outputs
output_of path unit (Without end) = None

-- the output of finished units at a path, else the file
abbrev pub output_or_file : Files → List Finished → Files
output_or_file files [] path = files path
output_or_file files (finished ∷ earlier) path = option_or (output_of path finished.unit finished.outcome)
    (output_or_file files earlier path)

-- what a run makes of its unit
abbrev pub outcome_of_run : Result (List (List ℕ)) ScriptFault → Outcome
outcome_of_run (Ok outputs) = Made outputs
outcome_of_run (Err fault) = Without (Failed (Script fault))

-- an end without a run, else what the run of the script gives over these files
abbrev pub end_or_run : Option UnitEnd → Unit → Files → Outcome
end_or_run (Some end) unit files = Without end
end_or_run None unit files = outcome_of_run (run (script_text unit.script) unit.targets files).result

-- what a unit comes to where these earlier ones are finished: its script sees the files and the outputs of what it needs
abbrev pub serial_of : Files → (List ℕ → Bool) → (List ℕ → Bool) → List Finished → Unit → Outcome
serial_of files is_file is_directory earlier unit =
    end_or_run (early_end is_directory (standing_in is_file earlier) unit) unit
    (output_or_file files (needed_units unit_of unit.prerequisites earlier))

-- what units come to one after the other, the last first in both lists
abbrev pub serial : Files → (List ℕ → Bool) → (List ℕ → Bool) → List Unit → List Finished
serial files is_file is_directory [] = []
serial files is_file is_directory (unit ∷ earlier) =
    let done = serial files is_file is_directory earlier in
    record { unit = unit; outcome = serial_of files is_file is_directory done unit } ∷ done

-- the units of a view's build, in their order, with what they come to
abbrev pub all_finished : Base → List ℕ → List Unit → List Finished
all_finished b v units = reverse (serial (texts b v) (sees_file b v) (sees_directory b v) (reverse units))

-- units with what they come to, where there are such units
abbrev pub fresh_of : Base → List ℕ → Result (List Unit) Refusal → Result (List Finished) Refusal
fresh_of b v (Err refusal) = Err refusal
fresh_of b v (Ok units) = Ok (all_finished b v units)

-- The build from nothing in a view: the refusal of its units, or each unit with what it comes to.
abbrev pub fresh : Base → List ℕ → Option (List ℕ) → List Macro → List (List ℕ) → Result (List Finished) Refusal
fresh b v file macros goals = fresh_of b v (units (texts b v) file macros goals)

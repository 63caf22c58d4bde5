-- What the record of an object gives where it is run again: on its own entries, and on what a view sees.
use Rattle.std.specs.Prelude.{◌≡◌, ℕ, zero, suc, ◌+◌, Bool, true, false, not, ◌&&◌, ◌||◌, ◌==◌, Option, Some, None, Result, Ok}
use Rattle.std.specs.Prelude.{Err, List, [], ◌∷◌, is_some, option_and_then}
use Rattle.std.specs.List.{list_all}
use Rattle.std.specs.Option.{option_or}
use Rattle.cc_names.specs.Files.{Files}
use Rattle.cc_names.specs.References.{one_where}
use Rattle.cc_names.specs.declared.refusals.ScriptFault.{ScriptFault}
use Rattle.cc_names.specs.declared.rows.Deed.{Deed}
use Rattle.cc_names.specs.declared.rows.Deed.TheVariants as deeds
use Rattle.cc_names.specs.declared.rows.ReadOf.{ReadOf}
use Rattle.script_grammar.specs.Run.{Ran, run}
use Rattle.base_model.specs.Rows.{Base, size, deed_at, only_where}
use Rattle.base_model.specs.Changes.{live_row, targets_of}
use Rattle.base_model.specs.Closures.{is_publish}
use Rattle.base_model.specs.Texts.{texts, output_at, text}
use Rattle.base_model.specs.Objects.{row_in, are_same_paths}

-- the outputs of a run that succeeded
abbrev pub outputs_of_result : Result (List (List ℕ)) ScriptFault → Option (List (List ℕ))
outputs_of_result (Ok outputs) = Some outputs
outputs_of_result (Err fault) = None

-- the outputs of a run that took place and succeeded
abbrev pub outputs_of_run : Option Ran → Option (List (List ℕ))
outputs_of_run None = None
outputs_of_run (Some ran) = outputs_of_result ran.result

-- the output at a path of an object with these targets, where its run succeeded
abbrev pub output_of_run : List ℕ → List (List ℕ) → Option (List (List ℕ)) → Option (List ℕ)
output_of_run path targets None = None
output_of_run path targets (Some outputs) = output_at path targets outputs

-- the text of an entry: none where nothing was there, of an object what its own run gives, else the text of the row
abbrev pub text_of_entry : Base → (ℕ → Option Ran) → List ℕ → ℕ → Option (List ℕ)
text_of_entry b again path zero = None
text_of_entry b again path (suc row) = elim (is_publish b (suc row)) [
  | true ↦ output_of_run path (targets_of b (suc row)) (outputs_of_run (again (suc row)))
  | false ↦ text b (suc row) path
]

-- the texts of the entries of a record
abbrev pub texts_of_entries : Base → (ℕ → Option Ran) → List ReadOf → Files
texts_of_entries b again entries path = option_and_then (text_of_entry b again path) (row_in entries path)

-- a run of a record on texts that are found by its entries
abbrev pub run_of_deed : (List ReadOf → Files) → Deed → Option Ran
run_of_deed texts (deeds.Publish v targets script entries outputs) = Some (run script targets (texts entries))
run_of_deed texts deed = None

-- the run of the record of object id on the texts of exactly its entries; entries name earlier rows
abbrev pub rerun : Base → ℕ → Option Ran
rerun [] id = None
rerun (row ∷ older) id =
    elim (size older == id) [ true ↦ run_of_deed (texts_of_entries older (rerun older)) row.deed | false ↦ rerun older id ]

-- The value of an object: the outputs of that run, where it succeeds.
abbrev pub value : Base → ℕ → Option (List (List ℕ))
value b id = outputs_of_run (rerun b id)

-- whether each path that a run asked for has an entry
abbrev pub has_entries : List ReadOf → List (List ℕ) → Bool
has_entries entries reads = list_all (λ path. is_some (row_in entries path)) reads

-- whether outputs are the stored ones; none are not
abbrev pub are_stored : List (List ℕ) → Option (List (List ℕ)) → Bool
are_stored outputs None = false
are_stored outputs (Some others) = are_same_paths outputs others

-- the paths that a run asked for
abbrev pub reads_of_run : Option Ran → List (List ℕ)
reads_of_run None = []
reads_of_run (Some ran) = ran.reads

-- whether a publish has as its outputs those of a run, and an entry for each path that the run asked for
abbrev pub is_true_deed : Option Ran → Option Deed → Bool
is_true_deed ran (Some (deeds.Publish v targets script entries outputs)) =
    are_stored outputs (outputs_of_run ran) && has_entries entries (reads_of_run ran)
is_true_deed ran _ = false

-- Whether an object is true: its record, run again, gives the stored outputs and asks for nothing else.
abbrev pub is_true : Base → ℕ → Bool
is_true b id = is_true_deed (rerun b id) (deed_at b id)

-- whether an object is not live, or true
abbrev pub is_dead_or_true : Base → ℕ → Bool
is_dead_or_true b id = not (is_some (live_row b id)) || is_true b id

-- the oldest of some rows that is a live object and not true
abbrev pub unsound_among : Base → Base → Option ℕ
unsound_among b [] = None
unsound_among b (row ∷ older) = option_or (unsound_among b older) (only_where (not (is_dead_or_true b (size older)))
    (Some (size older)))

-- the first live object that is not true
abbrev pub first_unsound : Base → Option ℕ
first_unsound b = unsound_among b b

-- how many of some rows are live objects
abbrev pub live_among : Base → Base → ℕ
live_among b [] = 0
live_among b (row ∷ older) = one_where (is_some (live_row b (size older))) + live_among b older

-- how many objects are live
abbrev pub live_count : Base → ℕ
live_count b = live_among b b

-- A base is sound where each live object is true.
abbrev pub IsSound : Base → Type 0
IsSound b = (id : ℕ) → is_dead_or_true b id ≡ true

-- the row that is read in place of an entry's: of an object its own, else what is seen at the path, where an entry names a row
abbrev pub text_seen : Base → Files → (ℕ → Option Ran) → List ℕ → ℕ → Option (List ℕ)
text_seen b seen again path zero = None
text_seen b seen again path (suc row) = elim (is_publish b (suc row)) [
  | true ↦ output_of_run path (targets_of b (suc row)) (outputs_of_run (again (suc row)))
  | false ↦ seen path
]

-- what a record that is run again reads at each path: what its entry there stands for, and nothing where it has none
abbrev pub texts_seen : Base → Files → (ℕ → Option Ran) → List ReadOf → Files
texts_seen b seen again entries path = option_and_then (text_seen b seen again path) (row_in entries path)

-- the run of the record of object id where these texts are seen: an object that it names is run again in the same way
abbrev pub rerun_on : Files → Base → ℕ → Option Ran
rerun_on seen [] id = None
rerun_on seen (row ∷ older) id =
    elim (size older == id) [
      | true ↦ run_of_deed (texts_seen older seen (rerun_on seen older)) row.deed
      | false ↦
          rerun_on seen older id
    ]

-- The outputs of an object's record where it is run again in a view.
abbrev pub again : Base → List ℕ → ℕ → Option (List (List ℕ))
again b v id = outputs_of_run (rerun_on (texts b v) b id)

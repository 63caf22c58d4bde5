-- The values of objects as a check keeps them: those alone that are not the stored outputs.
use Rattle.std.specs.Prelude.{◌≡◌, ℕ, zero, suc, nat_lt, Bool, not, ◌&&◌, Option, Some, None, List, option_and_then, option_map}
use Rattle.cc_names.specs.Files.{Files}
use Rattle.cc_names.specs.declared.rows.Deed.{Deed}
use Rattle.cc_names.specs.declared.rows.Deed.TheVariants as deeds
use Rattle.cc_names.specs.declared.rows.ReadOf.{ReadOf}
use Rattle.script_grammar.specs.Run.{Ran}
use Rattle.script_grammar.specs.Standings.{Standing}
use Rattle.base_model.specs.Rows.{Base, deed_at, only_where}
use Rattle.base_model.specs.Changes.{targets_of}
use Rattle.base_model.specs.Texts.{text}
use Rattle.legal_history.specs.Builds.Values.{are_stored, output_of_run, outputs_of_run, rerun}
use Rattle.base_model.specs.Objects.{row_in}

-- by the number of an object the outputs of its run, none where that fails; nothing where they are the stored ones
abbrev pub Values : Type 0
Values = ℕ → Option (Option (List (List ℕ)))

-- what is kept of a run of a record
abbrev pub kept_of : Option Ran → Option Deed → Option (Option (List (List ℕ)))
kept_of ran (Some (deeds.Publish v targets script entries outputs)) =
    only_where (not (are_stored outputs (outputs_of_run ran))) (Some (outputs_of_run ran))
kept_of ran _ = None

-- what is kept of each object
abbrev pub values_kept : Base → Values
values_kept b id = kept_of (rerun b id) (deed_at b id)

-- the text of a row at a path: the output that is kept of an object, else the row's own
abbrev pub text_or_output : Base → List ℕ → ℕ → Option (Option (List (List ℕ))) → Option (List ℕ)
text_or_output b path row None = text b row path
text_or_output b path row (Some outputs) = output_of_run path (targets_of b row) outputs

-- the text of an entry by the values that are kept; row 0 says that nothing was there
abbrev pub text_kept : Base → Values → List ℕ → ℕ → Option (List ℕ)
text_kept b values path zero = None
text_kept b values path (suc row) = text_or_output b path (suc row) (values (suc row))

-- a text with the row that made it
abbrev pub standing : ℕ → Option (List ℕ) → Option Standing
standing row text = option_map (λ bytes. record { row = row; text = bytes }) text

-- what stands at each path, by the row that a record has there
abbrev pub stands_kept : Base → Values → (List ℕ → Option ℕ) → List ℕ → Option Standing
stands_kept b values rows path = option_and_then (λ row. standing row (text_kept b values path row)) (rows path)

-- the texts of the entries of a record
abbrev pub texts_kept : Base → Values → List ReadOf → Files
texts_kept b values entries path = option_and_then (text_kept b values path) (row_in entries path)

-- The values are kept of the needed objects below a number, and of no others.
abbrev pub KeepsBelow : ℕ → (ℕ → Bool) → Base → Values → Type 0
KeepsBelow n needed b values = (id : ℕ) → values id ≡ only_where (nat_lt id n && needed id) (values_kept b id)

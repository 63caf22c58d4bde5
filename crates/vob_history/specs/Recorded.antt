-- The parts of the texts of records.
use Rattle.std.specs.Prelude.{ℕ, Option, Some, List, ◌++◌, codes}
use Rattle.cc_names.specs.declared.rows.Deed.{Deed}
use Rattle.cc_names.specs.declared.rows.Deed.TheVariants as deeds
use Rattle.cc_names.specs.declared.rows.ReadOf.{ReadOf}
use Rattle.base_model.specs.Rows.{Base}
use Rattle.legal_history.specs.Queries.RecordTexts.{line_of_read}
use Rattle.legal_history.specs.Queries.VersionNames.{line}

-- the word for a row that made no version
abbrev pub row_word : Option Deed → List ℕ
row_word (Some (deeds.Put v p text)) = codes "private"
row_word (Some (deeds.Publish v targets script entries outputs)) = codes "object"
row_word _ = codes "checkedout"

-- the line of a target
abbrev pub target_line : List ℕ → List ℕ
target_line target = line (codes "target " ++ target)

-- the line of a line of a script
abbrev pub recorded_script_line : List ℕ → List ℕ
recorded_script_line text = line (codes "script " ++ text)

-- the line of an entry
abbrev pub entry_line : Base → ReadOf → List ℕ
entry_line b entry = line_of_read b entry.path entry.row

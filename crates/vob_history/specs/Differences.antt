-- The parts of what differs between two records.
use Rattle.std.specs.Prelude.{ℕ, Bool, Option, List, ◌++◌, codes, bytes_eq}
use Rattle.std.specs.List.{list_any}
use Rattle.cc_names.specs.declared.rows.ReadOf.{ReadOf}
use Rattle.base_model.specs.Rows.{Base}
use Rattle.legal_history.specs.Queries.RecordTexts.{is_same_row, side_line, unless_same}

-- whether a record has a path
abbrev pub is_path_read : List ℕ → List ReadOf → Bool
is_path_read path entries = list_any (λ entry. bytes_eq path entry.path) entries

-- a path with the rows that two records have there, where they differ
abbrev pub difference_lines : Base → List ℕ → Option ℕ → Option ℕ → List ℕ
difference_lines b path one two = unless_same (is_same_row one two) (side_line b (codes "< ") path one
    ++ side_line b (codes "> ") path two)

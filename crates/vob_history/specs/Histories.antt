-- What a row of an element's history tells.
use Rattle.std.specs.Prelude.{ℕ, List, [], ◌∷◌, ◌++◌}
use Rattle.std.specs.Option.{option_map_or}
use Rattle.base_model.specs.Rows.{Base, row_at}
use Rattle.legal_history.specs.Queries.HistoryTexts.{history_line}
use Rattle.legal_history.specs.Queries.VersionNames.{version_name}

-- a label, a blank, and the version on which it is put
abbrev pub label_text : Base → List ℕ → ℕ → List ℕ
label_text b label version = label ++ 32 ∷ version_name b version

-- what the row of a number did to an element
abbrev pub history_row_lines : Base → ℕ → ℕ → List ℕ
history_row_lines b e n = option_map_or (λ row. history_line b e n row.moment row.deed) (row_at b n) []

-- The payloads of frames that spell rows.
use Rattle.std.specs.Prelude.{ℕ, List, [], ◌∷◌, ◌++◌}
use Rattle.base_model.specs.Rows.{Base}
use Rattle.row_form.specs.Spelled.{spelling_of}

-- the payloads that spell some rows, from row 1 on
abbrev pub payloads : Base → List (List ℕ)
payloads [] = []
payloads (row ∷ older) = payloads older ++ spelling_of row ∷ []

-- The rows that do something to a thing, one after the other, the newest first.
use Rattle.std.specs.Prelude.{ℕ, ◌&&◌, nat_lt, min, is_some, Option, List, [], ◌∷◌}
use Rattle.cc_names.specs.Versions.{put_if}
use Rattle.base_model.specs.Rows.{Base, size}
use Rattle.base_rows.specs.LookUps.{Deeds, Update, update_by_row}

-- the numbers of the rows that do something
abbrev pub updating_rows : {A : Type 0} → Deeds A → Base → List ℕ
updating_rows effect [] = []
updating_rows effect (row ∷ older) = put_if (is_some (update_by_row (size older) (effect older row.deed))) (size older)
    (updating_rows effect older)

-- those of these numbers that lie below a bound and below all that come before them, and whose rows do something
abbrev pub updating_rows_below : {A : Type 0} → (ℕ → Option (Update A)) → ℕ → List ℕ → List ℕ
updating_rows_below at bound [] = []
updating_rows_below at bound (n ∷ ns) = put_if (nat_lt n bound && is_some (at n)) n (updating_rows_below at (min bound n) ns)

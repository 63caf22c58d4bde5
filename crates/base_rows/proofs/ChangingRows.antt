-- The rows that change names in a checkout are all that are told of it.
use Rattle.std.proofs.Common.{◌≡◌, ℕ, Bool, true, false, [], ◌∷◌, refl, ap₂}
use Rattle.std.specs.Prelude.{is_some}
use Rattle.cc_names.specs.Last.{Sets, only_if}
use Rattle.cc_names.specs.Versions.{is_number, put_if}
use Rattle.base_model.specs.Rows.{Base, size}
use Rattle.base_rows.specs.Laws.AffectedByChanges.{changing_effect}
use Rattle.base_rows.specs.Changed.{changing, changing_rows}
use Rattle.base_rows.specs.LookUps.{update_by_row}
use Rattle.base_rows.specs.Walks.{updating_rows}

updates_where : (is : Bool) (n : ℕ) → is_some (update_by_row n (only_if is (Sets n))) ≡ is
updates_where true n = refl
updates_where false n = refl

pub all_changing : (began : ℕ) (b : Base) → updating_rows (changing_effect began) b ≡ changing_rows began b
all_changing began [] = refl
all_changing began (row ∷ older) = ap₂ (λ is rows. put_if is (size older) rows)
    (updates_where (is_number began (changing older row.deed)) (size older)) (all_changing began older)

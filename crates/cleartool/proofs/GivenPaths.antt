-- The rows that give views something are found by the walk along their marks.
use Rattle.std.proofs.Common.{◌≡◌, ℕ, Bool, ◌&&◌, ◌||◌, List, [], ◌∷◌, refl, ap, ap₂, ◌∙◌}
use Rattle.std.specs.Prelude.{is_some}
use Rattle.std.specs.List.{list_any}
use Rattle.base_model.specs.Closures.{is_path_among}
use Rattle.base_model.specs.Rows.{Base, size}
use Rattle.base_rows.specs.Giving.{gives_view, own_effect}
use Rattle.base_rows.specs.LookUps.{update_by_row}
use Rattle.base_rows.specs.Walks.{updating_rows}
use Rattle.cleartool.specs.Owned.{is_given_by, paths_by, was_given}
use Rattle.view_lookup.proofs.GivenRows.{AreDeeds, any_put, deed_newest, deeds_below, updates_where}

pub paths_found : (b : Base) (v path : List ℕ) (rows : Base) → AreDeeds b rows
    → list_any (is_given_by b path) (updating_rows (own_effect v) rows) ≡ was_given b v path rows
paths_found b v path [] agree = refl
paths_found b v path (row ∷ older) agree =
    any_put (is_given_by b path) (is_some (update_by_row (size older) (own_effect v older row.deed))) (size older)
    (updating_rows (own_effect v) older)
    ∙ ap₂ (λ (one more : Bool). one || more)
    (ap₂ (λ (one two : Bool). one && two) (updates_where (gives_view v row.deed) (size older) (size older))
    (ap (λ deed. is_path_among path (paths_by b deed)) (deed_newest b row older agree)))
    (paths_found b v path older (deeds_below b row older agree))

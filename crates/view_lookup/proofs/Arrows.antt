-- The row of a merge is the last one that says it.
use Rattle.std.proofs.Common.{◌≡◌, ℕ, Bool, true, false, Option, Some, [], ◌∷◌, refl, ap, ◌∙◌}
use Rattle.std.specs.Option.{option_or}
use Rattle.cc_names.specs.Last.{Sets, only_if, value_after}
use Rattle.base_model.specs.Conditions.{arrow_row, is_arrow}
use Rattle.base_model.specs.Rows.{Base, only_where, size}
use Rattle.base_rows.specs.Effects.{merge_effect}
use Rattle.base_rows.specs.LookUps.{last_of}

by_test : (is : Bool) (n : ℕ) (before : Option ℕ) → option_or (only_where is (Some n)) before
    ≡ value_after (only_if is (Sets n)) before
by_test true n before = refl
by_test false n before = refl

pub arrow_by_last : (b : Base) (e tail head : ℕ) → arrow_row b e tail head ≡ last_of (merge_effect e tail head) b
arrow_by_last [] e tail head = refl
arrow_by_last (row ∷ older) e tail head =
    ap (option_or (only_where (is_arrow e tail head row.deed) (Some (size older)))) (arrow_by_last older e tail head)
    ∙ by_test (is_arrow e tail head row.deed) (size older) (last_of (merge_effect e tail head) older)

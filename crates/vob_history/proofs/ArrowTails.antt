-- The versions from which arrows lead into a version are given by the walk along its marks.
use Rattle.std.proofs.Common.{◌≡◌, ℕ, Bool, ◌&&◌, ◌||◌, ◌==◌, [], ◌∷◌, refl, ap, ap₂, ◌∙◌}
use Rattle.std.specs.Prelude.{is_some, option_and_then}
use Rattle.std.specs.List.{list_any}
use Rattle.cc_names.specs.Versions.{is_number}
use Rattle.cc_names.specs.declared.rows.Deed.{Deed}
use Rattle.cc_names.specs.declared.rows.Deed.TheVariants as deeds
use Rattle.cc_names.proofs.Common.{eq_swapped, and_swapped}
use Rattle.base_model.specs.Rows.{Base, size}
use Rattle.legal_history.specs.Queries.Merges.{is_arrow_between, leads}
use Rattle.base_rows.specs.Effects.{merged_effect}
use Rattle.base_rows.specs.LookUps.{update_by_row}
use Rattle.base_rows.specs.Walks.{updating_rows}
use Rattle.vob_history.specs.Reached.{arrow_source_at, arrow_source}
use Rattle.view_lookup.proofs.GivenRows.{AreDeeds, any_put, deed_newest, deeds_below, updates_where}

-- the row of an arrow into the version has its tail
tail_found : (older : Base) (one two : ℕ) (deed : Deed) → (is_some (update_by_row (size older) (merged_effect two older deed))
    && is_number one (arrow_source deed)) ≡ leads one two deed
tail_found older one two (deeds.Arrow e tail head) =
    ap₂ (λ (s t : Bool). s && t) (updates_where (head == two) (size older) (size older)) (eq_swapped one tail)
    ∙ and_swapped (head == two) (tail == one)
tail_found older one two deed = refl

pub tails_found : (b : Base) (one two : ℕ) (rows : Base) → AreDeeds b rows
    → list_any (λ n. is_number one (arrow_source_at b n)) (updating_rows (merged_effect two) rows) ≡ is_arrow_between rows one two
tails_found b one two [] agree = refl
tails_found b one two (row ∷ older) agree =
    any_put (λ n. is_number one (arrow_source_at b n)) (is_some (update_by_row (size older) (merged_effect two older row.deed)))
    (size older) (updating_rows (merged_effect two) older)
    ∙ ap₂ (λ (first more : Bool). first || more)
    (ap (λ deed. is_some (update_by_row (size older) (merged_effect two older row.deed))
    && is_number one (option_and_then arrow_source deed)) (deed_newest b row older agree) ∙ tail_found older one two row.deed)
    (tails_found b one two older (deeds_below b row older agree))

-- The rows that change names in the checkout are all that are told of it.
use Rattle.std.proofs.Common.{◌≡◌, ℕ, List, Some, IfOk, sym, ap, subst, ◌∙◌}
use Rattle.cc_names.specs.declared.rows.Deed.{Deed}
use Rattle.cc_names.specs.declared.rows.Deed.TheVariants as deeds
use Rattle.base_model.specs.Rows.{Base}
use Rattle.base_rows.specs.Laws.AffectedByChanges.{changing_effect}
use Rattle.base_rows.specs.Changed.{newest_checkout_row, changing_rows_of, checked_in_rows}
use Rattle.base_rows.specs.Walks.{updating_rows}
use Rattle.base_rows.proofs.ChangingRows.{all_changing}
use Rattle.base_rows.proofs.changed.checked_in_rows.Goals as goal

same_rows : (b : Base) (deed : Deed) (v : List ℕ) (d began : ℕ) → deed ≡ deeds.Checkin v d
    → newest_checkout_row b v d ≡ Some began → updating_rows (changing_effect began) b ≡ checked_in_rows b deed
same_rows b deed v d began is first = all_changing began b ∙ sym (ap (checked_in_rows b) is ∙ ap (changing_rows_of b) first)

pub returns-in-Some : goal.returns-in-Some
returns-in-Some c =
    subst (λ (rows : List ℕ). IfOk c.updating_rows.result (λ numbers. numbers.items ≡ rows))
    (same_rows c.args.rows.now c.args.deed.now _ _ c.in-Some.began c.in-Checkin.is (sym c.newest_checkout_row.ensures
    ∙ c.in-Some.is)) c.updating_rows.ensures

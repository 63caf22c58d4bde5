-- A record that is run again gives the same however many rows were added since.
use Rattle.std.proofs.Common.{◌≡◌, refl, ap, sym, subst, ◌∙◌, ℕ, zero, suc, ◌<◌, Bool, true, false, ◌==◌, Option, Some, None}
use Rattle.std.proofs.Common.{List, [], ◌∷◌, arith}
use Rattle.std.specs.Prelude.{option_and_then}
use Rattle.cc_names.specs.Formed.{Plain}
use Rattle.cc_names.specs.declared.rows.Deed.{Deed}
use Rattle.cc_names.specs.declared.rows.Deed.TheVariants as deeds
use Rattle.cc_names.specs.declared.rows.ReadOf.{ReadOf}
use Rattle.script_grammar.specs.Run.{Ran, run}
use Rattle.base_model.specs.Rows.{Base, size, row_at, deed_of, deed_at}
use Rattle.base_model.specs.Changes.{targets_of_deed}
use Rattle.base_model.specs.Closures.{entries_of_deed, is_publish_deed}
use Rattle.base_model.specs.Fits.{is_base}
use Rattle.base_model.specs.Objects.{row_in}
use Rattle.legal_history.specs.Builds.Values.{output_of_run, outputs_of_run, text_of_entry, texts_of_entries, run_of_deed, rerun}
use Rattle.base_model.proofs.Owned.{row_fits, rows_below}
use Rattle.base_model.proofs.Stay.{text_stays}
use Rattle.base_model.proofs.VersionsStay.{apart_below}
use Rattle.base_model.proofs.EntriesBelow.{AreBelow, deed_entries_below}
use Rattle.base_model.proofs.VersionRows.{deed_stays}

pub rerun_stays : (row : Plain) (b : Base) (id : ℕ) → id < size b → rerun (row ∷ b) id ≡ rerun b id
rerun_stays row b id low =
    ap (λ t. elim t as (λ x. Option Ran) [ true ↦ run_of_deed (texts_of_entries b (rerun b)) row.deed | false ↦ rerun b id ])
    (apart_below (size b) (size b) id refl low)

entry_stays : (row : Plain) (b : Base) (path : List ℕ) (r : ℕ) → r < size b
    → text_of_entry (row ∷ b) (rerun (row ∷ b)) path r ≡ text_of_entry b (rerun b) path r
entry_stays row b path zero low = refl
entry_stays row b path (suc r) low = λ i. elim (is_publish_deed (deed_stays row b (suc r) low i)) as (λ x. Option (List ℕ)) [
  | true ↦ output_of_run path (targets_of_deed (deed_stays row b (suc r) low i))
      (outputs_of_run (rerun_stays row b (suc r) low i))
  | false ↦ text_stays row b (suc r) path low i
]

texts_stay : (row : Plain) (b : Base) (entries : List ReadOf) → AreBelow (size b) entries → (path : List ℕ) →
    texts_of_entries (row ∷ b) (rerun (row ∷ b)) entries path ≡ texts_of_entries b (rerun b) entries path
texts_stay row b entries low path = by (row_in entries path) refl
  where
    by : (o : Option ℕ) → row_in entries path ≡ o → option_and_then (text_of_entry (row ∷ b) (rerun (row ∷ b)) path) o
        ≡ option_and_then (text_of_entry b (rerun b) path) o
    by None is = refl
    by (Some r) is = entry_stays row b path r (low path r is)

deed_run_stays : (row : Plain) (b : Base) (deed : Deed) → AreBelow (size b) (entries_of_deed (Some deed)) →
    run_of_deed (texts_of_entries (row ∷ b) (rerun (row ∷ b))) deed ≡ run_of_deed (texts_of_entries b (rerun b)) deed
deed_run_stays row b (deeds.Publish v targets script entries outputs) low =
    λ i. Some (run script targets (λ path. texts_stay row b entries low path i))
deed_run_stays row b deed low = refl

-- an object's record, run again on the texts of its entries in the base as it is now
pub record IsRerun (b : Base) (id : ℕ) (deed : Deed) : Type 0 where
  pub below : AreBelow (size b) (entries_of_deed (Some deed))
  pub is : rerun b id ≡ run_of_deed (texts_of_entries b (rerun b)) deed

pub rerun_now : (b : Base) (id : ℕ) (deed : Deed) → is_base b ≡ true → deed_at b id ≡ Some deed → IsRerun b id deed
rerun_now [] id deed base h = absurd (cc)
rerun_now (row ∷ older) id deed base h = let now = by (size older == id) h (rerun_now older id deed (rows_below row older base))
    in record { below = now.0; is = now.1 }
  where
    higher : (entries : List ReadOf) → AreBelow (size older) entries → AreBelow (size (row ∷ older)) entries
    higher entries low = λ path r is. let under = low path r is in omega arith

    by : (t : Bool) → deed_of (elim t as (λ x. Option Plain) [ true ↦ Some row | false ↦ row_at older id ]) ≡ Some deed
        → (deed_at older id ≡ Some deed → IsRerun older id deed) →
        AreBelow (size (row ∷ older)) (entries_of_deed (Some deed)) × (elim t as (λ x. Option Ran) [
          | true ↦
              run_of_deed (texts_of_entries older (rerun older)) row.deed
          | false ↦ rerun older id
        ]
        ≡ run_of_deed (texts_of_entries (row ∷ older) (rerun (row ∷ older))) deed)
    by true h rest =
        let same : row.deed ≡ deed = cc in
        let low = subst (λ d. AreBelow (size older) (entries_of_deed (Some d))) same
        (deed_entries_below older row.deed (row_fits row older base)) in (
          higher (entries_of_deed (Some deed)) low,
          ap (run_of_deed (texts_of_entries older (rerun older))) same
              ∙ sym (deed_run_stays row older deed low),
        )
    by false h rest = let before = rest h in (
      higher (entries_of_deed (Some deed)) before.below,
      before.is
          ∙ sym (deed_run_stays row older deed before.below),
    )

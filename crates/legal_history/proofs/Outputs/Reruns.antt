-- The text of a row that published nothing, and the run of a record, are those of a blanked base.
use Rattle.std.proofs.Common.{◌≡◌, refl, ap, ◌∙◌, ℕ, zero, suc, Bool, true, false, not, ◌==◌, Option, Some, None, List, [], ◌∷◌}
use Rattle.std.proofs.Common.{arith}
use Rattle.std.specs.Prelude.{option_and_then}
use Rattle.cc_names.specs.declared.rows.Deed.{Deed}
use Rattle.cc_names.specs.declared.rows.Deed.TheVariants as deeds
use Rattle.script_grammar.specs.Run.{Ran}
use Rattle.base_model.specs.Blanked.{blank_deed, with_blanks}
use Rattle.base_model.specs.Changes.{targets_of}
use Rattle.base_model.specs.Checkouts.{is_latest}
use Rattle.base_model.specs.Closures.{is_publish, is_publish_deed, is_version_of}
use Rattle.base_model.specs.Conditions.{exists, has_out, is_branch_type, has_branch, element_of_text}
use Rattle.base_model.specs.Fits.{may_reserve, deed_fits, is_base}
use Rattle.base_model.specs.Rows.{Base, size, deed_at}
use Rattle.base_model.specs.Texts.{TextSource, Bytes, OfRow, NoText, of_making, source_of, text}
use Rattle.legal_history.specs.Builds.Values.{output_of_run, outputs_of_run, text_of_entry, run_of_deed, rerun}
use Rattle.base_model.specs.Views.{making}
use Rattle.base_model.specs.Objects.{row_in}
use Rattle.base_model.proofs.Owned.{row_fits, rows_below, third_of}
use Rattle.base_model.proofs.OwnRows.{making_text}
use Rattle.base_model.proofs.RootRow.{no_row}
use Rattle.base_model.proofs.VersionRows.{TextAt, version_text}
use Rattle.legal_history.proofs.Outputs.Deeds.{deed_among, deed_same, size_same}
use Rattle.legal_history.proofs.Outputs.States.{making_same, targets_same, publish_same}

-- what made a text of an element published nothing
text_is_no_publish : (b : Base) (r e : ℕ) → TextAt b r e → is_publish b r ≡ false
text_is_no_publish b r e h = ap is_publish_deed h.made ∙ by h.deed h.of_element
  where
    by : (deed : Deed) → element_of_text b r deed ≡ Some e → is_publish_deed (Some deed) ≡ false
    by (deeds.Publish v targets script entries outputs) is = absurd (cc)
    by deed is = refl

version_is_no_publish : (b : Base) (e r : ℕ) → is_base b ≡ true → is_version_of b e r ≡ true → is_publish b r ≡ false
version_is_no_publish b e zero base is = by (deed_at b 0) refl
  where
    by : (o : Option Deed) → deed_at b 0 ≡ o → is_publish_deed o ≡ false
    by None is = refl
    by (Some deed) is = absurd (no_row b deed is)
version_is_no_publish b e (suc r) base is = text_is_no_publish b (suc r) e (version_text b e (suc r) base is (omega arith))

-- the text from a source
abbrev text_from : Base → List ℕ → TextSource → Option (List ℕ)
text_from b path source =
    elim source as (λ x. Option (List ℕ)) [ Bytes bytes ↦ Some bytes | OfRow origin ↦ text b origin path | NoText ↦ None ]

source_same : (older : Base) (path : List ℕ) (deed : Deed) → is_base older ≡ true →
    deed_fits older deed ≡ true → is_publish_deed (Some deed) ≡ false →
    ((r : ℕ) → is_publish older r ≡ false → text (with_blanks older) r path ≡ text older r path) →
    text_from (with_blanks older) path (source_of (with_blanks older) path (blank_deed deed))
    ≡ text_from older path (source_of older path deed)
source_same older path (deeds.Checkout v e origin reserved) base fit none rest =
    let origin_fits = third_of (exists older v) (not (has_out older v e)) (is_version_of older e origin) in
    rest origin (version_is_no_publish older e origin base
    (origin_fits (is_latest older origin) (may_reserve older origin reserved) fit))
source_same older path (deeds.Branch v e origin name taken) base fit none rest =
    let origin_fits = third_of (exists older v) (not (has_out older v e)) (is_version_of older e origin) in
    rest origin (version_is_no_publish older e origin base
    (origin_fits (is_branch_type older name) (not (has_branch older e name)) fit))
source_same older path (deeds.Checkin v e) base fit none rest =
    (λ i. text_from (with_blanks older) path (of_making (making_same older v e i))) ∙ by (making older v e) refl
  where
    by : (o : Option ℕ) → making older v e ≡ o → text_from (with_blanks older) path (of_making o)
        ≡ text_from older path (of_making o)
    by None is = refl
    by (Some r) is = rest r (text_is_no_publish older r e (making_text older v e r is))
source_same older path (deeds.Publish v targets script entries outputs) base fit none rest = absurd (cc)
source_same older path deed base fit none rest = refl

-- the text of a row's deed where a test holds, else that of row r below it
abbrev text_among : Bool → Base → Deed → ℕ → List ℕ → Option (List ℕ)
text_among t older deed r path =
    elim t as (λ x. Option (List ℕ)) [ false ↦ text older r path | true ↦ text_from older path (source_of older path deed) ]

pub text_same : (b : Base) (r : ℕ) (path : List ℕ) → is_base b ≡ true → is_publish b r ≡ false →
    text (with_blanks b) r path ≡ text b r path
text_same [] r path base none = refl
text_same (row ∷ older) r path base none =
    (λ i. text_among (size_same older i == r) (with_blanks older) (blank_deed row.deed) r path)
    ∙ by (size older == r) none (λ r none. text_same older r path (rows_below row older base) none)
  where
    by : (t : Bool) → is_publish_deed (deed_among t row older r) ≡ false →
        ((r : ℕ) → is_publish older r ≡ false → text (with_blanks older) r path ≡ text older r path) →
        text_among t (with_blanks older) (blank_deed row.deed) r path ≡ text_among t older row.deed r path
    by true none rest = source_same older path row.deed (rows_below row older base) (row_fits row older base) none rest
    by false none rest = rest r none

-- the text of an entry by whether it names an object, what the object gives, and what a file's row has
abbrev text_by : Bool → Option (List ℕ) → Option (List ℕ) → Option (List ℕ)
text_by t output file = elim t as (λ x. Option (List ℕ)) [ true ↦ output | false ↦ file ]

entry_same : (b : Base) → is_base b ≡ true → ((id : ℕ) → rerun (with_blanks b) id ≡ rerun b id) → (path : List ℕ) (r : ℕ) →
    text_of_entry (with_blanks b) (rerun (with_blanks b)) path r ≡ text_of_entry b (rerun b) path r
entry_same b base again path zero = refl
entry_same b base again path (suc r) =
    (λ i. text_by (publish_same b (suc r) i) (output_of_run path (targets_same b (suc r) i) (outputs_of_run (again (suc r) i)))
    (text (with_blanks b) (suc r) path))
    ∙ by (output_of_run path (targets_of b (suc r)) (outputs_of_run (rerun b (suc r)))) (is_publish b (suc r)) refl
  where
    by : (output : Option (List ℕ)) (t : Bool) → is_publish b (suc r) ≡ t →
        text_by t output (text (with_blanks b) (suc r) path) ≡ text_by t output (text b (suc r) path)
    by output true is = refl
    by output false is = text_same b (suc r) path base is

pub rerun_same : (b : Base) (id : ℕ) → is_base b ≡ true → rerun (with_blanks b) id ≡ rerun b id
rerun_same [] id base = refl
rerun_same (row ∷ older) id base =
    let below = rows_below row older base in
    let before : (id : ℕ) → rerun (with_blanks older) id ≡ rerun older id = λ id. rerun_same older id below in
    λ i. elim (size_same older i == id) as (λ x. Option Ran) [
      | true ↦ deed_same (run_of_deed (λ entries path.
          option_and_then (λ r. entry_same older below before path r i) (row_in entries path)))
          refl row.deed i
      | false ↦ before id i
    ]

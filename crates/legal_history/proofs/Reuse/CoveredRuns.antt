-- Where a view covers an object's record, running the record again in the view gives what it gives on its own entries.
use Rattle.std.proofs.Common.{◌≡◌, refl, ap, sym, ◌∙◌, ℕ, zero, suc, ◌<◌, Bool, true, false, ◌==◌, Option, Some, None, List, []}
use Rattle.std.proofs.Common.{◌∷◌, arith}
use Rattle.std.specs.Prelude.{option_and_then}
use Rattle.cc_names.specs.Files.{Files}
use Rattle.cc_names.specs.declared.rows.Deed.{Deed}
use Rattle.cc_names.specs.declared.rows.Deed.TheVariants as deeds
use Rattle.cc_names.specs.declared.rows.ReadOf.{ReadOf}
use Rattle.cc_names.proofs.Common.{number_found}
use Rattle.script_grammar.specs.Run.{Ran, run}
use Rattle.base_model.specs.Rows.{Base, size}
use Rattle.base_model.specs.Changes.{targets_of}
use Rattle.base_model.specs.Closures.{Inputs, inputs_of_entry, inputs_of, closure, entries_of_deed, is_publish}
use Rattle.base_model.specs.Fits.{is_base}
use Rattle.base_model.specs.Texts.{texts, text}
use Rattle.base_model.specs.Objects.{row_in, uncovered_path}
use Rattle.base_model.specs.Seen.{file_at}
use Rattle.legal_history.specs.Builds.Values.{output_of_run, outputs_of_run, text_of_entry, texts_of_entries, run_of_deed, rerun}
use Rattle.legal_history.specs.Builds.Values.{text_seen, texts_seen, rerun_on, again, is_true}
use Rattle.base_model.proofs.Owned.{row_fits, rows_below}
use Rattle.base_model.proofs.Stay.{text_stays}
use Rattle.legal_history.specs.Laws.Objects.{outputs_of, outputs_of_deed}
use Rattle.base_model.proofs.Covered.{Covers, entry_covered, closure_covered, own_input}
use Rattle.base_model.proofs.EntriesBelow.{AreBelow, deed_entries_below}
use Rattle.legal_history.proofs.Reuse.TrueObjects.{true_object}

-- what is seen at a path with a row of the base is the text of that row
abbrev SeenAsText : (List ℕ → Option ℕ) → Files → Base → Type 0
SeenAsText rows seen b = (path : List ℕ) (r : ℕ) → r < size b → rows path ≡ Some r → seen path ≡ text b r path

-- the text of an entry as it is seen, and as it was
same_entry : (rows : List ℕ → Option ℕ) (seen : Files) (b : Base) (path : List ℕ) (r : ℕ) → SeenAsText rows seen b
    → ((id : ℕ) → Covers rows (closure b id) → rerun_on seen b id ≡ rerun b id) → r < size b →
    Covers rows (inputs_of_entry (is_publish b r) (closure b) (record { path = path; row = r }))
    → text_seen b seen (rerun_on seen b) path r ≡ text_of_entry b (rerun b) path r
same_entry rows seen b path zero as_text reruns low covers = refl
same_entry rows seen b path (suc r) as_text reruns low covers = by (is_publish b (suc r)) covers
  where
    by : (t : Bool) → Covers rows (inputs_of_entry t (closure b) (record { path = path; row = suc r })) →
        elim t as (λ x. Option (List ℕ)) [
          | true ↦ output_of_run path (targets_of b (suc r))
              (outputs_of_run (rerun_on seen b (suc r)))
          | false ↦ seen path
        ]
        ≡ elim t as (λ x. Option (List ℕ)) [
          | true ↦ output_of_run path (targets_of b (suc r)) (outputs_of_run (rerun b (suc r)))
          | false ↦ text b (suc r) path
        ]
    by true covers = ap (λ o. output_of_run path (targets_of b (suc r)) (outputs_of_run o)) (reruns (suc r) covers)
    by false covers = as_text path (suc r) low (number_found (suc r) (rows path) (covers (path, suc r) (own_input path (suc r))))

same_texts : (rows : List ℕ → Option ℕ) (seen : Files) (b : Base) (entries : List ReadOf) (path : List ℕ) → SeenAsText rows seen b
    → ((id : ℕ) → Covers rows (closure b id) → rerun_on seen b id ≡ rerun b id) → AreBelow (size b) entries →
    Covers rows (inputs_of b (closure b) entries) → texts_seen b seen (rerun_on seen b) entries path
    ≡ texts_of_entries b (rerun b) entries path
same_texts rows seen b entries path as_text reruns low covers = by (row_in entries path) refl
  where
    by : (o : Option ℕ) → row_in entries path ≡ o → option_and_then (text_seen b seen (rerun_on seen b) path) o
        ≡ option_and_then (text_of_entry b (rerun b) path) o
    by None is = refl
    by (Some r) is = same_entry rows seen b path r as_text reruns (low path r is)
        (entry_covered rows b (closure b) entries path r covers is)

same_deed : (rows : List ℕ → Option ℕ) (seen : Files) (b : Base) (deed : Deed) → SeenAsText rows seen b
    → ((id : ℕ) → Covers rows (closure b id) → rerun_on seen b id ≡ rerun b id) → AreBelow (size b) (entries_of_deed (Some deed))
    →
    Covers rows (inputs_of b (closure b) (entries_of_deed (Some deed)))
    → run_of_deed (texts_seen b seen (rerun_on seen b)) deed ≡ run_of_deed (texts_of_entries b (rerun b)) deed
same_deed rows seen b (deeds.Publish v targets script entries outputs) as_text reruns low covers =
    λ i. Some (run script targets (λ path. same_texts rows seen b entries path as_text reruns low covers i))
same_deed rows seen b deed as_text reruns low covers = refl

same_rerun : (rows : List ℕ → Option ℕ) (seen : Files) (b : Base) → is_base b ≡ true → SeenAsText rows seen b → (id : ℕ)
    → Covers rows (closure b id) → rerun_on seen b id ≡ rerun b id
same_rerun rows seen [] base as_text id covers = refl
same_rerun rows seen (row ∷ older) base as_text id covers = by (size older == id) covers
    (same_rerun rows seen older (rows_below row older base) before)
  where
    before : SeenAsText rows seen older
    before path r low is = as_text path r (higher low) is ∙ text_stays row older r path low
      where
        higher : r < size older → r < size (row ∷ older)
        higher low = omega arith

    by : (t : Bool) → Covers rows (elim t as (λ x. Inputs) [
      | true ↦ inputs_of older (closure older)
          (entries_of_deed (Some row.deed))
      | false ↦ closure older id
    ]) →
        ((id : ℕ) → Covers rows (closure older id) → rerun_on seen older id ≡ rerun older id) →
        elim t as (λ x. Option Ran) [
          | true ↦ run_of_deed (texts_seen older seen (rerun_on seen older)) row.deed
          | false ↦
              rerun_on seen older id
        ]
        ≡ elim t as (λ x. Option Ran) [
          | true ↦ run_of_deed (texts_of_entries older (rerun older)) row.deed
          | false ↦
              rerun older id
        ]
    by true covers rest = same_deed rows seen older row.deed before rest
        (deed_entries_below older row.deed (row_fits row older base)) covers
    by false covers rest = rest id covers

-- The law of a covered record.
pub covered_runs_again : (b : Base) (v : List ℕ) (id : ℕ) → is_base b ≡ true → is_true b id ≡ true → uncovered_path b v id ≡ None
    → again b v id ≡ outputs_of b id
covered_runs_again b v id base true_one covered =
    let o = true_object b id true_one in
    ap outputs_of_run (same_rerun (file_at b v) (texts b v) b base (λ path r low is. ap (option_and_then (λ row. text b row path))
    is) id (closure_covered b v id covered))
    ∙ o.ran ∙ sym (ap outputs_of_deed o.is)

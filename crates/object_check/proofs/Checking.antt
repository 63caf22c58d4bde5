-- What a run of a record on the values that are kept says of its object.
use Rattle.std.proofs.Common.{◌≡◌, refl, ap, ap₂, sym, ◌∙◌, ℕ, ◌&&◌, not, Option, Some, None, List}
use Rattle.std.specs.List.{list_all}
use Rattle.std.specs.Prelude.{is_some, option_and_then, option_map}
use Rattle.cc_names.specs.declared.rows.Deed.{Deed}
use Rattle.cc_names.specs.declared.rows.Deed.TheVariants as deeds
use Rattle.cc_names.specs.declared.rows.ReadOf.{ReadOf}
use Rattle.script_grammar.specs.Run.{Ran, run}
use Rattle.script_grammar.specs.Standings.{texts, text_of}
use Rattle.base_model.specs.Rows.{Base, deed_at, only_where}
use Rattle.legal_history.specs.Builds.Values.{are_stored, is_true, is_true_deed, outputs_of_result, rerun, run_of_deed}
use Rattle.base_model.specs.Objects.{row_in}
use Rattle.object_check.specs.Checks.{IsChecked}
use Rattle.object_check.specs.Kept.{Values, values_kept, kept_of, standing, stands_kept, text_kept, texts_kept}
use Rattle.object_check.specs.declared.checks.Checked.{Checked}

-- the files of a record's entries have the texts of its entries
kept_files : (b : Base) (values : Values) (entries : List ReadOf) (rows : List ℕ → Option ℕ)
    → ((path : List ℕ) → rows path ≡ row_in entries path) →
    texts (stands_kept b values rows) ≡ texts_kept b values entries
kept_files b values entries rows same = λ i path. (ap (λ row. option_map text_of
    (option_and_then (λ row. standing row (text_kept b values path row)) row)) (same path) ∙ by path (row_in entries path)) i
  where
    text_alone : (r : ℕ) (t : Option (List ℕ)) → option_map text_of (standing r t) ≡ t
    text_alone r None = refl
    text_alone r (Some bytes) = refl

    by : (path : List ℕ) (o : Option ℕ) → option_map text_of (option_and_then (λ row. standing row (text_kept b values path row))
        o) ≡ option_and_then (text_kept b values path) o
    by path None = refl
    by path (Some r) = text_alone r (text_kept b values path r)

pub publish_checked : (b : Base) (values : Values) (v : List ℕ) (targets : List (List ℕ)) (script : List ℕ)
    (entries : List ReadOf) (outputs : List (List ℕ)) (rows : List ℕ → Option ℕ) (ran : Ran) (checked : Checked) →
    ((path : List ℕ) → rows path ≡ row_in entries path) → ran ≡ run script targets (texts (stands_kept b values rows)) →
    checked.is_true ≡ (are_stored outputs (outputs_of_result ran.result) && list_all (λ path. is_some (rows path)) ran.reads) →
    checked.value ≡ only_where (not (are_stored outputs (outputs_of_result ran.result))) (Some (outputs_of_result ran.result)) →
    IsChecked (run_of_deed (texts_kept b values) (deeds.Publish v targets script entries outputs))
    (Some (deeds.Publish v targets script entries outputs)) checked
publish_checked b values v targets script entries outputs rows ran checked same is is_true_by value_by =
    let gives : ran ≡ run script targets (texts_kept b values entries) = is
    ∙ ap (run script targets) (kept_files b values entries rows same) in
    record {
      is_true = is_true_by
          ∙ ap (λ (r : Ran). are_stored outputs (outputs_of_result r.result) && list_all (λ path. is_some (rows path)) r.reads)
          gives
          ∙ (λ i. are_stored outputs (outputs_of_result (run script targets (texts_kept b values entries)).result)
          && list_all (λ path. is_some (same path i)) (run script targets (texts_kept b values entries)).reads);
      value = value_by ∙ ap (λ (r : Ran). only_where (not (are_stored outputs (outputs_of_result r.result)))
          (Some (outputs_of_result r.result))) gives;
    }

-- by the run of the record in the base
pub checked_true : (b : Base) (id : ℕ) (deed : Deed) (ran : Option Ran) (checked : Checked) → ran ≡ rerun b id
    → deed_at b id ≡ Some deed → IsChecked ran (Some deed) checked → checked.is_true ≡ is_true b id
checked_true b id deed ran checked same is h = h.is_true ∙ ap₂ is_true_deed same (sym is)

pub checked_kept : (b : Base) (id : ℕ) (deed : Deed) (ran : Option Ran) (checked : Checked) → ran ≡ rerun b id
    → deed_at b id ≡ Some deed → IsChecked ran (Some deed) checked → checked.value ≡ values_kept b id
checked_kept b id deed ran checked same is h = h.value ∙ ap₂ kept_of same (sym is)

-- What a record gives on the values that are kept is what it gives on those of the objects that it names.
use Rattle.std.proofs.Common.{◌≡◌, refl, ap, ap₂, sym, ◌∙◌, ℕ, zero, suc, ◌<◌, ◌==◌, ◌&&◌, ◌||◌, Bool, true, false, not, cond}
use Rattle.std.proofs.Common.{nat_lt, Option, Some, None, List, [], ◌∷◌, arith}
use Rattle.std.proofs.lemmas.Bool.Decides.{nat_tests}
use Rattle.std.specs.Prelude.{bytes_eq, find, option_and_then, option_map}
use Rattle.std.proofs.lemmas.Bool.{or_right}
use Rattle.cc_names.specs.declared.rows.Deed.{Deed}
use Rattle.cc_names.specs.declared.rows.Deed.TheVariants as deeds
use Rattle.cc_names.specs.declared.rows.ReadOf.{ReadOf}
use Rattle.script_grammar.specs.Run.{run}
use Rattle.base_model.specs.Rows.{Base, deed_at, only_where}
use Rattle.base_model.specs.Changes.{targets_of, targets_of_deed}
use Rattle.base_model.specs.Closures.{entries_of_deed, is_publish, is_publish_deed}
use Rattle.base_model.specs.Fits.{is_base}
use Rattle.base_model.specs.Texts.{text}
use Rattle.legal_history.specs.Builds.Values.{are_stored, output_of_run, outputs_of_run, rerun, run_of_deed, text_of_entry}
use Rattle.legal_history.specs.Builds.Values.{texts_of_entries}
use Rattle.base_model.specs.Objects.{row_in}
use Rattle.legal_history.proofs.Reuse.Reruns.{rerun_now}
use Rattle.legal_history.proofs.Reuse.TrueObjects.{object_text, stored_is}
use Rattle.object_check.specs.Kept.{KeepsBelow, Values, values_kept, kept_of, text_kept, text_or_output, texts_kept}
use Rattle.object_check.specs.Needed.{IsClosed, is_object_of, name_object}
use Rattle.object_check.proofs.NextRows.{entries_before}

-- the text of an entry by what is kept of an object, or by what it has stored
kept_text : (b : Base) (path : List ℕ) (r : ℕ) →
    text_or_output b path r (values_kept b r) ≡ elim (is_publish b r) as (λ x. Option (List ℕ)) [
      | true ↦
          output_of_run path (targets_of b r) (outputs_of_run (rerun b r))
      | false ↦ text b r path
    ]
kept_text b path r = by (deed_at b r) refl
  where
    outs : Option (List (List ℕ))
    outs = outputs_of_run (rerun b r)

    stored_or : (v : List ℕ) (targets : List (List ℕ)) (script : List ℕ) (entries : List ReadOf) (outputs : List (List ℕ))
        (t : Bool) → deed_at b r ≡ Some (deeds.Publish v targets script entries outputs) →
        are_stored outputs (outputs_of_run (rerun b r)) ≡ t →
        text_or_output b path r (only_where (not t) (Some (outputs_of_run (rerun b r))))
        ≡ output_of_run path targets (outputs_of_run (rerun b r))
    stored_or v targets script entries outputs true is stored =
        object_text b r v targets script entries outputs path is ∙ sym
        (ap (output_of_run path targets) (stored_is outputs (outputs_of_run (rerun b r)) stored))
    stored_or v targets script entries outputs false is stored = ap (λ deed. output_of_run path (targets_of_deed deed)
        (outputs_of_run (rerun b r))) is

    by_deed : (deed : Deed) → deed_at b r ≡ Some deed →
        text_or_output b path r (kept_of (rerun b r) (Some deed))
        ≡ elim (is_publish_deed (Some deed)) as (λ x. Option (List ℕ)) [
          | true ↦
              output_of_run path (targets_of_deed (Some deed)) (outputs_of_run (rerun b r))
          | false ↦ text b r path
        ]
    by_deed (deeds.Publish v targets script entries outputs) is = stored_or v targets script entries outputs
        (are_stored outputs (outputs_of_run (rerun b r))) is refl
    by_deed deed is = refl

    by : (o : Option Deed) → deed_at b r ≡ o →
        text_or_output b path r (kept_of (rerun b r) o)
        ≡ elim (is_publish_deed o) as (λ x. Option (List ℕ)) [
          | true ↦ output_of_run path (targets_of_deed o)
              (outputs_of_run (rerun b r))
          | false ↦ text b r path
        ]
    by None is = refl
    by (Some deed) is = by_deed deed is

-- nothing is kept of a row that is no object
none_kept : (b : Base) (r : ℕ) → is_publish b r ≡ false → values_kept b r ≡ None
none_kept b r h = by (deed_at b r) h
  where
    by_deed : (deed : Deed) → is_publish_deed (Some deed) ≡ false → kept_of (rerun b r) (Some deed) ≡ None
    by_deed (deeds.Publish v targets script entries outputs) h = absurd (cc)
    by_deed deed h = refl

    by : (o : Option Deed) → is_publish_deed o ≡ false → kept_of (rerun b r) o ≡ None
    by None h = refl
    by (Some deed) h = by_deed deed h

no_where : (t : Bool) → only_where {A = Option (List (List ℕ))} t None ≡ None
no_where true = refl
no_where false = refl

-- an object that a record has at a path is named by its entries
pub named : (b : Base) (entries : List ReadOf) (path : List ℕ) (r : ℕ) → row_in entries path ≡ Some r → is_publish b r ≡ true
    → name_object b entries r ≡ true
named b [] path r is object = absurd (cc)
named b (entry ∷ entries) path r is object = by (bytes_eq entry.path path) is (λ rest. named b entries path r rest object)
  where
    by : (t : Bool) → option_map (λ (entry : ReadOf). entry.row) (cond t (Some entry)
        (find (λ entry. bytes_eq entry.path path) entries)) ≡ Some r →
        (row_in entries path ≡ Some r → name_object b entries r ≡ true)
        → (is_object_of b r entry || name_object b entries r) ≡ true
    by true is rest =
        let same : entry.row ≡ r = cc in
        let alike : (entry.row == r) ≡ true = grind (arith, nat_tests, same) in
        ap₂ (λ one n. (one && is_publish b n) || name_object b entries r) alike same
        ∙ ap (λ one. one || name_object b entries r) object
    by false is rest = or_right (is_object_of b r entry) (name_object b entries r) (rest is)

-- what is kept of a row that is named by a needed object is kept by now
kept_by_now : (id r : ℕ) (needed : ℕ → Bool) (b : Base) (values : Values) → KeepsBelow id needed b values → r < id
    → (is_publish b r ≡ true → needed r ≡ true) → values r ≡ values_kept b r
kept_by_now id r needed b values keeps low needs = keeps r ∙ by (is_publish b r) refl
  where
    below : nat_lt r id ≡ true
    below = grind (arith, nat_tests, low)

    by : (t : Bool) → is_publish b r ≡ t → only_where (nat_lt r id && needed r) (values_kept b r) ≡ values_kept b r
    by true is = ap₂ (λ l n. only_where (l && n) (values_kept b r)) below (needs is)
    by false is = ap (only_where (nat_lt r id && needed r)) (none_kept b r is) ∙ no_where (nat_lt r id && needed r)
        ∙ sym (none_kept b r is)

text_same : (b : Base) (values : Values) (path : List ℕ) (r : ℕ) → values r ≡ values_kept b r
    → text_kept b values path r ≡ text_of_entry b (rerun b) path r
text_same b values path zero is = refl
text_same b values path (suc r) is = ap (text_or_output b path (suc r)) is ∙ kept_text b path (suc r)

module _ (b : Base) (id : ℕ) (needed : ℕ → Bool) (values : Values) (closed : IsClosed b needed)
    (keeps : KeepsBelow id needed b values) (is_needed : needed id ≡ true) where
  texts_same : (deed : Deed) → is_base b ≡ true → deed_at b id ≡ Some deed → (path : List ℕ) →
      texts_kept b values (entries_of_deed (Some deed)) path ≡ texts_of_entries b (rerun b) (entries_of_deed (Some deed)) path
  texts_same deed base is path = by (row_in (entries_of_deed (Some deed)) path) refl
    where
      needs : (r : ℕ) → row_in (entries_of_deed (Some deed)) path ≡ Some r → is_publish b r ≡ true → needed r ≡ true
      needs r at object = closed id r is_needed (ap (λ o. name_object b (entries_of_deed o) r) is
          ∙ named b (entries_of_deed (Some deed)) path r at object)

      by : (o : Option ℕ) → row_in (entries_of_deed (Some deed)) path ≡ o
          → option_and_then (text_kept b values path) o ≡ option_and_then (text_of_entry b (rerun b) path) o
      by None at = refl
      by (Some r) at = text_same b values path r (kept_by_now id r needed b values keeps
          (entries_before b id deed base is path r at) (needs r at))

  same_run : (deed : Deed) → ((path : List ℕ) → texts_kept b values (entries_of_deed (Some deed)) path
      ≡ texts_of_entries b (rerun b) (entries_of_deed (Some deed)) path) →
      run_of_deed (texts_kept b values) deed ≡ run_of_deed (texts_of_entries b (rerun b)) deed
  same_run (deeds.Publish v targets script entries outputs) same = λ i. Some (run script targets (λ path. same path i))
  same_run deed same = refl

  -- a needed object's record, run on the values that are kept
  pub same_rerun : (deed : Deed) → is_base b ≡ true → deed_at b id ≡ Some deed
      → run_of_deed (texts_kept b values) deed ≡ rerun b id
  same_rerun deed base is = same_run deed (texts_same deed base is) ∙ sym (rerun_now b id deed base is).is

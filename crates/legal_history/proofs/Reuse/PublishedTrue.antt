-- An object that a unit's run publishes is true, so the base stays sound.
use Rattle.std.proofs.Common.{◌≡◌, refl, ap, sym, ◌∙◌, ℕ, Bool, true, false, cond, ◌&&◌, ◌||◌, Option, Some, List, [], ◌∷◌, map}
use Rattle.std.proofs.lemmas.Cmp.{nat_list_cmp_total, nat_list_eq_equiv}
use Rattle.std.proofs.lemmas.Map.Text.{is_eq-slice_cmp}
use Rattle.std.proofs.lemmas.Slice.Eq.{bytes_eq-Decides}
use Rattle.std.specs.Cmp.Lexicographic.{slice_cmp}
use Rattle.std.specs.FinMap.Entries.{find, find-put}
use Rattle.std.specs.List.{AllByRecursion, list_all}
use Rattle.std.specs.Ordering.{nat_cmp, eq_by_cmp}
use Rattle.std.specs.Prelude.{is_some, bytes_eq, option_and_then, option_map, find as find_in}
use Rattle.std.proofs.lemmas.Bool.{or_left, or_right}
use Rattle.cc_names.specs.Formed.{Plain}
use Rattle.cc_names.specs.declared.rows.Deed.{Deed}
use Rattle.cc_names.specs.declared.rows.Deed.TheVariants as deeds
use Rattle.cc_names.specs.declared.rows.ReadOf.{ReadOf}
use Rattle.cc_names.specs.declared.units.Unit.{Unit}
use Rattle.cc_names.proofs.Common.{bytes_equal_themselves}
use Rattle.script_grammar.specs.Run.{Ran, run}
use Rattle.script_grammar.proofs.FrameLemmas.{run_framed}
use Rattle.base_model.specs.Rows.{Base, size, first_rows, deed_at}
use Rattle.legal_history.specs.Builds.Active.{Build}
use Rattle.legal_history.specs.Builds.Choices.{here, visible, entry_row, in_order, as_entry, entries}
use Rattle.base_model.specs.Texts.{text_of_row}
use Rattle.base_model.specs.Closures.{is_path_among}
use Rattle.base_model.specs.Fits.{is_base}
use Rattle.legal_history.specs.Builds.Fresh.{script_text}
use Rattle.base_model.specs.Objects.{row_in}
use Rattle.legal_history.specs.Builds.Values.{outputs_of_result, has_entries, are_stored, text_of_entry, texts_of_entries}
use Rattle.legal_history.specs.Builds.Values.{run_of_deed, rerun, is_true, is_true_deed, IsSound}
use Rattle.base_model.proofs.Owned.{same_is_same}
use Rattle.legal_history.proofs.Builds.Published.{IsPublish}
use Rattle.base_model.proofs.VersionRows.{newest_deed}
use Rattle.legal_history.specs.Laws.Objects.{GivesLive}
use Rattle.legal_history.proofs.Reuse.SeenTexts.{SeesTrue, unit_sees_true, own_entry_text}
use Rattle.legal_history.proofs.Reuse.TrueObjects.{texts_alike}

-- a row is found by its path in a record as it is in the table of which the record is made
found_by_path : (pairs : List (List ℕ × ℕ)) (path : List ℕ) → row_in (map as_entry pairs) path
    ≡ find (slice_cmp nat_cmp) path pairs
found_by_path [] path = refl
found_by_path (pair ∷ pairs) path = by (bytes_eq pair.0 path) (eq_by_cmp (slice_cmp nat_cmp) path pair.0)
    (nat_list_eq_equiv.symm pair.0 path ∙ sym (is_eq-slice_cmp path pair.0)) (found_by_path pairs path)
  where
    by : (s t : Bool) → s ≡ t → row_in (map as_entry pairs) path ≡ find (slice_cmp nat_cmp) path pairs →
        option_map (λ (entry : ReadOf). entry.row) (cond s (Some (as_entry pair))
        (find_in (λ entry. bytes_eq entry.path path) (map as_entry pairs)))
        ≡ cond t (Some pair.1) (find (slice_cmp nat_cmp) path pairs)
    by true true e rest = refl
    by false false e rest = rest
    by true false e rest = absurd (cc)
    by false true e rest = absurd (cc)

-- each path that was asked for has its entry
asked_found : (rows : List ℕ → Option ℕ) (reads : List (List ℕ)) (path : List ℕ) → is_path_among path reads ≡ true
    → find (slice_cmp nat_cmp) path (in_order rows reads) ≡ Some (entry_row (rows path))
asked_found rows [] path h = absurd (cc)
asked_found rows (first ∷ reads) path h =
    find-put (slice_cmp nat_cmp) nat_list_cmp_total path first (entry_row (rows first)) (in_order rows reads)
    ∙ ap (λ t. cond t (Some (entry_row (rows first))) (find (slice_cmp nat_cmp) path (in_order rows reads)))
    (is_eq-slice_cmp path first)
    ∙ by (bytes_eq path first) refl h (asked_found rows reads path)
  where
    by : (t : Bool) → bytes_eq path first ≡ t → (t || is_path_among path reads) ≡ true
        → (is_path_among path reads ≡ true → find (slice_cmp nat_cmp) path (in_order rows reads) ≡ Some (entry_row (rows path))) →
        cond t (Some (entry_row (rows first))) (find (slice_cmp nat_cmp) path (in_order rows reads))
        ≡ Some (entry_row (rows path))
    by true e h rest = let same : path ≡ first = (bytes_eq-Decides path first).0 e in
        ap (λ p. Some (entry_row (rows p))) (sym same)
    by false e h rest = rest h

entry_found : (rows : List ℕ → Option ℕ) (reads : List (List ℕ)) (path : List ℕ) → is_path_among path reads ≡ true
    → row_in (entries rows reads) path ≡ Some (entry_row (rows path))
entry_found rows reads path h = found_by_path (in_order rows reads) path ∙ asked_found rows reads path h

-- what holds of each path among some holds of them all
all_of : (P : List ℕ → Type 0) (paths : List (List ℕ)) → ((path : List ℕ) → is_path_among path paths ≡ true → P path)
    → AllByRecursion P paths
all_of P [] each = tt
all_of P (path ∷ paths) each = (
  each path (or_left (bytes_eq path path) (is_path_among path paths) (bytes_equal_themselves path)),
  all_of P paths (λ other among. each other (or_right (bytes_eq other path) (is_path_among other paths) among)),
)

each_of : (test : List ℕ → Bool) (paths : List (List ℕ)) → AllByRecursion (λ path. test path ≡ true) paths
    → list_all test paths ≡ true
each_of test [] h = refl
each_of test (path ∷ paths) h = ap (λ t. t && list_all test paths) h.0 ∙ each_of test paths h.1

all_have_entries : (rows : List ℕ → Option ℕ) (reads : List (List ℕ)) → has_entries (entries rows reads) reads ≡ true
all_have_entries rows reads =
    each_of (λ path. is_some (row_in (entries rows reads) path)) reads
    (all_of (λ path. is_some (row_in (entries rows reads) path) ≡ true) reads
    (λ path among. ap is_some (entry_found rows reads path among)))

-- the run of a record that was made of a unit's own run is that run
pub own_run : (b : Base) (rows : List ℕ → Option ℕ) (script : List ℕ) (targets : List (List ℕ)) → SeesTrue b rows →
    run script targets (λ path. text_of_row b path (rows path))
    ≡ run script targets (texts_of_entries b (rerun b) (entries rows (run script targets
    (λ path. text_of_row b path (rows path))).reads))
own_run b rows script targets sees = (run_framed script targets).equal (λ path. text_of_row b path (rows path))
    (texts_of_entries b (rerun b) (entries rows reads)) (record {
      at = all_of (λ path. text_of_row b path (rows path) ≡ texts_of_entries b (rerun b) (entries rows reads) path) reads
          (λ path among. sym (ap (option_and_then (text_of_entry b (rerun b) path)) (entry_found rows reads path among)
          ∙ own_entry_text b rows path sees));
    })
  where
    reads : List (List ℕ)
    reads = (run script targets (λ path. text_of_row b path (rows path))).reads

-- the newest row
newest_rerun : (row : Plain) (b : Base) → rerun (row ∷ b) (size b) ≡ run_of_deed (texts_of_entries b (rerun b)) row.deed
newest_rerun row b = ap (λ t. elim t as (λ x. Option Ran) [
  | true ↦ run_of_deed (texts_of_entries b (rerun b)) row.deed
  | false ↦
      rerun b (size b)
]) (same_is_same (size b))

true_run : (rows : List ℕ → Option ℕ) (v : List ℕ) (targets : List (List ℕ)) (script : List ℕ) (outputs : List (List ℕ))
    (reads : List (List ℕ)) (ran : Ran) → ran.reads ≡ reads → outputs_of_result ran.result ≡ Some outputs →
    is_true_deed (Some ran) (Some (deeds.Publish v targets script (entries rows reads) outputs)) ≡ true
true_run rows v targets script outputs reads ran asked made =
    ap (λ o. are_stored outputs o && has_entries (entries rows reads) ran.reads) made
    ∙ ap (λ t. t && has_entries (entries rows reads) ran.reads) (texts_alike outputs)
    ∙ ap (has_entries (entries rows reads)) asked ∙ all_have_entries rows reads

-- The object that a unit publishes is true.
pub published_is_true : (row : Plain) (b : Base) (build : Build) (n : ℕ) (unit : Unit) → is_base (first_rows build.rows b) ≡ true
    → IsSound b → GivesLive b build → IsPublish b build n unit row.deed →
    is_true (row ∷ b) (size b) ≡ true
published_is_true row b build n unit base sound gives p =
    let rows = visible b build n unit in
    let script = script_text unit.script in
    let same = own_run b rows script unit.targets (unit_sees_true b build n unit base sound gives) in
    let deed : Deed = deeds.Publish build.view unit.targets script (entries rows (here b build n unit).reads) p.outputs in
    ap (λ o. is_true_deed o (deed_at (row ∷ b) (size b))) (newest_rerun row b
    ∙ ap (run_of_deed (texts_of_entries b (rerun b))) p.is ∙ ap Some (sym same))
    ∙ ap (is_true_deed (Some (here b build n unit))) (newest_deed row b ∙ ap Some p.is)
    ∙ true_run rows build.view unit.targets script p.outputs (here b build n unit).reads (here b build n unit) refl
    (ap outputs_of_result p.ran)

-- What the closure of an object lists are texts of files.
use Rattle.std.proofs.Common.{◌≡◌, refl, ap, sym, subst, ◌∙◌, ℕ, ◌<◌, Bool, true, false, cond, ◌||◌, ◌==◌, Option, Some, None}
use Rattle.std.proofs.Common.{List, [], ◌∷◌, arith}
use Rattle.std.proofs.lemmas.Bool.Decides.{nat_tests}
use Rattle.std.specs.Bool.{⊤}
use Rattle.std.specs.FinMap.Entries.{put, find, by_order}
use Rattle.std.specs.List.{list_all}
use Rattle.std.specs.Ordering.{eq_by_cmp}
use Rattle.std.specs.Prelude.{is_some}
use Rattle.std.specs.declared.cmp.Ordering.{Ordering}
use Rattle.std.specs.declared.cmp.Ordering.TheVariants.{Less, Equal, Greater}
use Rattle.cc_names.specs.Formed.{Plain}
use Rattle.cc_names.specs.Versions.{kind_of}
use Rattle.cc_names.specs.declared.rows.Deed.{Deed}
use Rattle.cc_names.specs.declared.rows.Deed.TheVariants as deeds
use Rattle.cc_names.specs.declared.rows.Kind.{Kind}
use Rattle.cc_names.specs.declared.rows.Kind.TheVariants.{File, Directory}
use Rattle.cc_names.specs.declared.rows.ReadOf.{ReadOf}
use Rattle.cc_names.proofs.Common.{and_first, and_second}
use Rattle.base_model.specs.Rows.{Base, size, deed_at}
use Rattle.base_model.specs.Changes.{targets_of_deed, tree}
use Rattle.base_model.specs.Closures.{Input, Inputs, input_cmp, joined_inputs, inputs_of_entry, inputs_of, closure}
use Rattle.base_model.specs.Closures.{entries_of_deed, is_path_among, is_publish, is_publish_deed, is_version_of}
use Rattle.base_model.specs.Conditions.{element_of_text, is_file_kind, is_some_file, makes_file_text, is_entry}
use Rattle.base_model.specs.Fits.{is_base}
use Rattle.base_model.proofs.Owned.{row_fits, rows_below}
use Rattle.base_model.proofs.FileRows.{FileText, file_text_stays}
use Rattle.base_model.proofs.VersionRows.{version_text}
use Rattle.base_model.proofs.Covered.{one_input}
use Rattle.base_model.proofs.EntriesBelow.{entry_below, entries_fit}

-- each input made the text of a file, where it is not row 0
abbrev OfFiles : Base → Inputs → Type 0
OfFiles b [] = ⊤
OfFiles b (input ∷ inputs) = (0 < input.0.1 → FileText b input.0.1) × OfFiles b inputs

put_of_files : (b : Base) (s : Input) (row : ℕ) (inputs : Inputs) → (0 < s.1 → FileText b s.1) → OfFiles b inputs
    → OfFiles b (put input_cmp s row inputs)
put_of_files b s row [] own h = (own, tt)
put_of_files b s row (input ∷ inputs) own h = by (input_cmp s input.0) (put_of_files b s row inputs own h.1)
  where
    by : (o : Ordering) → OfFiles b (put input_cmp s row inputs) → OfFiles b
        (by_order o ((s, row) ∷ input ∷ inputs) ((input.0, row) ∷ inputs) (input ∷ put input_cmp s row inputs))
    by Less rest = (own, h)
    by Equal rest = h
    by Greater rest = (h.0, rest)

joined_of_files : (b : Base) (one others : Inputs) → OfFiles b one → OfFiles b others → OfFiles b (joined_inputs one others)
joined_of_files b [] others h g = g
joined_of_files b (input ∷ one) others h g = joined_of_files b one (put input_cmp input.0 input.1 others) h.1
    (put_of_files b input.0 input.1 others h.0 g)

of_files_stay : (row : Plain) (b : Base) (inputs : Inputs) → OfFiles b inputs → OfFiles (row ∷ b) inputs
of_files_stay row b [] h = tt
of_files_stay row b (input ∷ inputs) h = (λ above. file_text_stays row b input.0.1 (h.0 above), of_files_stay row b inputs h.1)

-- only an object has targets
no_targets : (o : Option Deed) → is_publish_deed o ≡ false → targets_of_deed o ≡ []
no_targets None h = refl
no_targets (Some (deeds.Publish v targets script entries outputs)) h = absurd (cc)
no_targets (Some deed) h = refl

middle : (t u : Bool) → t ≡ false → (t || u || false) ≡ true → u ≡ true
middle true u apart h = absurd (cc)
middle false true apart h = refl
middle false false apart h = h

-- an entry that fits and names no object
entry_of_file : (b : Base) (entry : ReadOf) → is_entry b entry ≡ true → is_publish b entry.row ≡ false → 0 < entry.row
    → FileText b entry.row
entry_of_file b entry fit other above = record {
  low = entry_below b entry fit;
  makes = middle (entry.row == 0) (makes_file_text b entry.row (deed_at b entry.row)) (grind (arith, nat_tests))
      (ap (λ targets. (entry.row == 0) || makes_file_text b entry.row (deed_at b entry.row) || is_path_among entry.path targets)
      (sym (no_targets (deed_at b entry.row) other)) ∙ fit);
}

entry_of_files : (b : Base) (t : Bool) (of_object : ℕ → Inputs) (entry : ReadOf) → is_publish b entry.row ≡ t
    → is_entry b entry ≡ true → ((id : ℕ) → OfFiles b (of_object id)) → OfFiles b (inputs_of_entry t of_object entry)
entry_of_files b true of_object entry is fit h = h entry.row
entry_of_files b false of_object entry is fit h = (entry_of_file b entry fit is, tt)

entries_of_files : (b : Base) (of_object : ℕ → Inputs) (entries : List ReadOf) → list_all (is_entry b) entries ≡ true
    → ((id : ℕ) → OfFiles b (of_object id)) → OfFiles b (inputs_of b of_object entries)
entries_of_files b of_object [] fit h = tt
entries_of_files b of_object (entry ∷ entries) fit h =
    joined_of_files b (inputs_of_entry (is_publish b entry.row) of_object entry) (inputs_of b of_object entries)
    (entry_of_files b (is_publish b entry.row) of_object entry refl (and_first (is_entry b entry) (list_all (is_entry b) entries)
    fit) h)
    (entries_of_files b of_object entries (and_second (is_entry b entry) (list_all (is_entry b) entries) fit) h)

closure_of_files : (b : Base) (id : ℕ) → is_base b ≡ true → OfFiles b (closure b id)
closure_of_files [] id base = tt
closure_of_files (row ∷ older) id base = of_files_stay row older (closure (row ∷ older) id)
    (by (size older == id) (λ id. closure_of_files older id (rows_below row older base)))
  where
    by : (t : Bool) → ((id : ℕ) → OfFiles older (closure older id)) → OfFiles older
        (elim t as (λ x. Inputs) [
          | true ↦ inputs_of older (closure older) (entries_of_deed (Some row.deed))
          | false ↦
              closure older id
        ])
    by true before = entries_of_files older (closure older) (entries_of_deed (Some row.deed))
        (entries_fit older row.deed (row_fits row older base)) before
    by false before = before id

found_of_file : (b : Base) (inputs : Inputs) (q : Input) → OfFiles b inputs → is_some (find input_cmp q inputs) ≡ true → 0 < q.1
    → FileText b q.1
found_of_file b [] q h has above = absurd (cc)
found_of_file b (input ∷ inputs) q h has above = by (eq_by_cmp input_cmp q input.0) refl has
    (λ rest. found_of_file b inputs q h.1 rest above)
  where
    by : (t : Bool) → eq_by_cmp input_cmp q input.0 ≡ t → is_some (cond t (Some input.1) (find input_cmp q inputs)) ≡ true
        → (is_some (find input_cmp q inputs) ≡ true → FileText b q.1) → FileText b q.1
    by true e has rest =
        let same : q.1 ≡ input.0.1 = (one_input q input.0 e).row in
        subst (FileText b) (sym same) (h.0 (subst (λ r. 0 < r) same above))
    by false e has rest = rest has

file_kind : (k : Option Kind) → is_file_kind k ≡ true → k ≡ Some File
file_kind None h = absurd (cc)
file_kind (Some Directory) h = absurd (cc)
file_kind (Some File) h = refl

-- an element is a file where a row that made a text of it made the text of a file
element_is_file : (b : Base) (r e : ℕ) (deed : Deed) → element_of_text b r deed ≡ Some e → makes_file_text b r (Some deed) ≡ true
    → is_some_file b (Some e) ≡ true
element_is_file b r e (deeds.Put v path text) is h = absurd (cc)
element_is_file b r e deed is h = ap (is_some_file b) (sym is) ∙ h

-- An element of which the closure of an object lists a version is a file.
pub listed_is_file : (b : Base) (id e : ℕ) (input : Input) → is_base b ≡ true
    → is_some (find input_cmp input (closure b id)) ≡ true → is_version_of b e input.1 ≡ true → 0 < input.1
    → kind_of (tree b) e ≡ Some File
listed_is_file b id e input base has version above =
    let made = version_text b e input.1 base version above in
    let file = found_of_file b (closure b id) input (closure_of_files b id base) has above in
    file_kind (kind_of (tree b) e) (element_is_file b input.1 e made.deed made.of_element
    (ap (makes_file_text b input.1) (sym made.made) ∙ file.makes))

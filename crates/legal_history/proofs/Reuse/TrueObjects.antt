-- What a true object has stored: the outputs of its record's run, which asks for nothing but its entries.
use Rattle.std.proofs.Common.{◌≡◌, refl, ap, sym, ◌∙◌, ℕ, Bool, true, false, not, ◌&&◌, ◌||◌, ◌==◌, Option, Some, None, List, []}
use Rattle.std.proofs.Common.{◌∷◌}
use Rattle.std.proofs.lemmas.Slice.Eq.{bytes_eq-Decides}
use Rattle.std.specs.Prelude.{is_some, bytes_eq}
use Rattle.cc_names.specs.Formed.{Plain}
use Rattle.cc_names.specs.declared.rows.Deed.{Deed}
use Rattle.cc_names.specs.declared.rows.Deed.TheVariants as deeds
use Rattle.cc_names.specs.declared.rows.ReadOf.{ReadOf}
use Rattle.cc_names.proofs.Common.{and_first, and_second}
use Rattle.base_model.specs.Rows.{Base, size, row_at, deed_of, deed_at}
use Rattle.base_model.specs.Changes.{live_row}
use Rattle.base_model.specs.Objects.{are_same_paths}
use Rattle.base_model.specs.Texts.{Bytes, OfRow, NoText, of_output, output_at, source_of, text}
use Rattle.legal_history.specs.Builds.Values.{outputs_of_run, reads_of_run, has_entries, are_stored, is_true, is_true_deed}
use Rattle.legal_history.specs.Builds.Values.{rerun, IsSound}

-- lists of the same texts are one list
pub same_texts : (xs ys : List (List ℕ)) → are_same_paths xs ys ≡ true → xs ≡ ys
same_texts [] [] h = refl
same_texts [] (y ∷ ys) h = absurd (cc)
same_texts (x ∷ xs) [] h = absurd (cc)
same_texts (x ∷ xs) (y ∷ ys) h =
    let head : x ≡ y = (bytes_eq-Decides x y).0 (and_first (bytes_eq x y) (are_same_paths xs ys) h) in
    let rest = same_texts xs ys (and_second (bytes_eq x y) (are_same_paths xs ys) h) in
    λ i. head i ∷ rest i

pub texts_alike : (xs : List (List ℕ)) → are_same_paths xs xs ≡ true
texts_alike [] = refl
texts_alike (x ∷ xs) = ap (λ t. t && are_same_paths xs xs) ((bytes_eq-Decides x x).1 refl) ∙ texts_alike xs

-- an object that is true, with what it was published as
pub record TrueObject (b : Base) (id : ℕ) : Type 0 where
  pub view : List ℕ
  pub targets : List (List ℕ)
  pub script : List ℕ
  pub entries : List ReadOf
  pub outputs : List (List ℕ)
  pub is : deed_at b id ≡ Some (deeds.Publish view targets script entries outputs)
  pub ran : outputs_of_run (rerun b id) ≡ Some outputs
  pub asked : has_entries entries (reads_of_run (rerun b id)) ≡ true

pub stored_is : (outputs : List (List ℕ)) (o : Option (List (List ℕ))) → are_stored outputs o ≡ true → o ≡ Some outputs
stored_is outputs None h = absurd (cc)
stored_is outputs (Some others) h = ap Some (sym (same_texts outputs others h))

pub true_object : (b : Base) (id : ℕ) → is_true b id ≡ true → TrueObject b id
true_object b id h = by (deed_at b id) refl h
  where
    by_deed : (deed : Deed) → deed_at b id ≡ Some deed → is_true_deed (rerun b id) (Some deed) ≡ true → TrueObject b id
    by_deed (deeds.Publish v targets script entries outputs) is h = record {
      view = v;
      targets = targets;
      script = script;
      entries = entries;
      outputs = outputs;
      is = is;
      ran = stored_is outputs (outputs_of_run (rerun b id)) (and_first (are_stored outputs (outputs_of_run (rerun b id)))
          (has_entries entries (reads_of_run (rerun b id))) h);
      asked = and_second (are_stored outputs (outputs_of_run (rerun b id))) (has_entries entries (reads_of_run (rerun b id))) h;
    }
    by_deed deed is h = absurd (cc)

    by : (o : Option Deed) → deed_at b id ≡ o → is_true_deed (rerun b id) o ≡ true → TrueObject b id
    by None is h = absurd (cc)
    by (Some deed) is h = by_deed deed is h

-- in a sound base a live object is true
pub live_is_true : (b : Base) (id : ℕ) → IsSound b → is_some (live_row b id) ≡ true → is_true b id ≡ true
live_is_true b id sound lives = ap (λ t. not t || is_true b id) (sym lives) ∙ sound id

-- the text of an object at a path is its output there
output_text : (older : Base) (path : List ℕ) (o : Option (List ℕ)) →
    elim (of_output o) as (λ x. Option (List ℕ)) [
      | Bytes bytes ↦ Some bytes
      | OfRow origin ↦ text older origin path
      | NoText ↦
          None
    ] ≡ o
output_text older path None = refl
output_text older path (Some output) = refl

pub object_text : (b : Base) (id : ℕ) (v : List ℕ) (targets : List (List ℕ)) (script : List ℕ) (entries : List ReadOf)
    (outputs : List (List ℕ)) (path : List ℕ) →
    deed_at b id ≡ Some (deeds.Publish v targets script entries outputs) → text b id path ≡ output_at path targets outputs
object_text [] id v targets script entries outputs path h = absurd (cc)
object_text (row ∷ older) id v targets script entries outputs path h =
    by (size older == id) h (object_text older id v targets script entries outputs path)
  where
    by : (t : Bool) → deed_of (elim t as (λ x. Option Plain) [ true ↦ Some row | false ↦ row_at older id ])
        ≡ Some (deeds.Publish v targets script entries outputs) →
        (deed_at older id ≡ Some (deeds.Publish v targets script entries outputs)
        → text older id path ≡ output_at path targets outputs) →
        elim t as (λ x. Option (List ℕ)) [
          | false ↦ text older id path
          | true ↦ elim (source_of older path row.deed) as (λ x. Option (List ℕ)) [
            | Bytes bytes ↦ Some bytes
            | OfRow origin ↦
                text older origin path
            | NoText ↦ None
          ]
        ] ≡ output_at path targets outputs
    by true h rest =
        let same : row.deed ≡ deeds.Publish v targets script entries outputs = cc in
        ap (λ (deed : Deed). elim (source_of older path deed) as (λ x. Option (List ℕ)) [
          | Bytes bytes ↦
              Some bytes
          | OfRow origin ↦ text older origin path
          | NoText ↦ None
        ]) same
        ∙ output_text older path (output_at path targets outputs)
    by false h rest = rest h

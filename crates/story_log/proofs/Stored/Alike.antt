-- Rows that frames spell, the base that is opened by them, and each base that they represent are the same but for outputs.
use Rattle.std.proofs.Common.{◌≡◌, refl, ap, sym, ◌∙◌, ℕ, suc, Bool, true, List, [], ◌∷◌, length, map}
use Rattle.std.specs.Prelude.{is_some}
use Rattle.cc_names.specs.declared.rows.Stored.{Stored}
use Rattle.cc_names.specs.declared.rows.Deed.{Deed}
use Rattle.cc_names.specs.declared.rows.Deed.TheVariants as deeds
use Rattle.base_model.specs.Blanked.{blank_outputs, blank_deed, with_blanks, AreSameButForOutputs}
use Rattle.base_model.specs.Fits.{is_base}
use Rattle.base_model.specs.Rows.{Base, size}
use Rattle.legal_history.proofs.Outputs.Alike.{base_alike, live_alike}
use Rattle.row_form.specs.Extents.{in_frame, plain_deed}
use Rattle.story_log.specs.Stored.Fitting.{plain_rows, are_stored_rows}
use Rattle.story_log.specs.Stored.Founds.{FoundFiles, AreOutputs, IsDeedOf, AreRowsOf, is_live, Represents}
use Rattle.story_log.specs.Stored.Opened.{output_opened, deed_opened, rows_opened, base_opened}
use Rattle.story_log.proofs.Stored.Fitting.{stored_are_base, stored_are_plain}

-- there are as many rows
pub same_size : (lives : ℕ → Bool) (objects : List ℕ) (stored b : Base) → AreRowsOf lives objects stored b → size stored ≡ size b
same_size lives objects [] [] are = refl
same_size lives objects [] (row ∷ older) are = absurd are
same_size lives objects (spelt ∷ earlier) [] are = absurd are
same_size lives objects (spelt ∷ earlier) (row ∷ older) are = ap suc (same_size lives objects earlier older are.1)

pub opened_size : (lives : ℕ → Bool) (objects : List ℕ) (stored : Base) → size (rows_opened lives objects stored) ≡ size stored
opened_size lives objects [] = refl
opened_size lives objects (row ∷ older) = ap suc (opened_size lives objects older)

-- the rows of frames fit as rows of a base
plain_are_base : (n : ℕ) (stored : Base) → are_stored_rows n stored ≡ true → is_base (plain_rows stored) ≡ true
plain_are_base n stored good = ap is_base (stored_are_plain n stored good) ∙ stored_are_base n stored good

-- the opened base
outputs_opened : (lives : Bool) (objects : List ℕ) (outputs : List Stored)
    → blank_outputs (map in_frame outputs) ≡ blank_outputs (map (output_opened lives objects) outputs)
outputs_opened lives objects [] = refl
outputs_opened lives objects (stored ∷ more) = λ i. [] ∷ outputs_opened lives objects more i

deed_alike : (lives : Bool) (objects : List ℕ) (deed : Deed) → blank_deed (plain_deed deed)
    ≡ blank_deed (deed_opened lives objects deed)
deed_alike lives objects (deeds.PublishAt view targets script entries outputs) =
    λ i. deeds.Publish view targets script entries (outputs_opened lives objects outputs i)
deed_alike lives objects deed = refl

rows_alike : (lives : ℕ → Bool) (objects : List ℕ) (stored : Base) → with_blanks (plain_rows stored)
    ≡ with_blanks (rows_opened lives objects stored)
rows_alike lives objects [] = refl
rows_alike lives objects (row ∷ older) =
    λ i. record { tag = row.tag; moment = row.moment; deed = deed_alike (lives (size older)) objects row.deed i }
    ∷ rows_alike lives objects older i

pub opened_alike : (objects : List ℕ) (stored : Base) → AreSameButForOutputs (plain_rows stored) (base_opened objects stored)
opened_alike objects stored = rows_alike (is_live (plain_rows stored)) objects stored

pub opened_is_base : (objects : List ℕ) (stored : Base) → are_stored_rows (length objects) stored ≡ true
    → is_base (base_opened objects stored) ≡ true
opened_is_base objects stored good =
    base_alike (plain_rows stored) (base_opened objects stored) (opened_alike objects stored)
    ∙ plain_are_base (length objects) stored good

-- a base that they represent
outputs_of : (lives : Bool) (objects : List ℕ) (stored : List Stored) (outputs : List (List ℕ))
    → AreOutputs lives objects stored outputs
    → blank_outputs (map in_frame stored) ≡ blank_outputs outputs
outputs_of lives objects [] [] are = refl
outputs_of lives objects [] (output ∷ outputs) are = absurd are
outputs_of lives objects (stored ∷ more) [] are = absurd are
outputs_of lives objects (stored ∷ more) (output ∷ outputs) are = λ i. [] ∷ outputs_of lives objects more outputs are.1 i

deed_of_spelt : (lives : Bool) (objects : List ℕ) (spelt deed : Deed) → IsDeedOf lives objects spelt deed
    → blank_deed (plain_deed spelt) ≡ blank_deed deed
deed_of_spelt lives objects (deeds.PublishAt view targets script entries stored) deed is =
    (λ i. deeds.Publish view targets script entries (outputs_of lives objects stored is.0 is.2 i)) ∙ ap blank_deed (sym is.1)
deed_of_spelt lives objects spelt deed is = ap blank_deed (sym is)

pub represented_alike : (lives : ℕ → Bool) (objects : List ℕ) (stored b : Base) → AreRowsOf lives objects stored b
    → AreSameButForOutputs (plain_rows stored) b
represented_alike lives objects [] [] are = refl
represented_alike lives objects [] (row ∷ older) are = absurd are
represented_alike lives objects (spelt ∷ earlier) [] are = absurd are
represented_alike lives objects (spelt ∷ earlier) (row ∷ older) are =
    λ i. record {
      tag = sym are.0.tag i;
      moment = sym are.0.moment i;
      deed = deed_of_spelt (lives (size older)) objects spelt.deed
          row.deed are.0.deed i;
    }
    ∷ represented_alike lives objects earlier older are.1 i

pub represented_is_base : (found : FoundFiles) (b : Base) → Represents found b → is_base b ≡ true
represented_is_base found b r =
    base_alike (plain_rows r.stored) b (represented_alike (is_live b) found.objects r.stored b r.rows)
    ∙ plain_are_base (length found.objects) r.stored r.good

-- which objects are live in all of them
pub same_live : (one two : Base) → AreSameButForOutputs one two → is_live two ≡ is_live one
same_live one two same = λ i id. is_some (live_alike one two id same i)

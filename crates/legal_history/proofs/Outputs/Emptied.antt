-- A base with the outputs of scrubbed objects emptied is the same but for these.
use Rattle.std.proofs.Common.{◌≡◌, refl, ap, sym, ◌∙◌, ℕ, suc, Bool, true, false, ◌==◌, Some, List, [], ◌∷◌}
use Rattle.std.specs.Prelude.{is_some}
use Rattle.cc_names.specs.Formed.{Plain}
use Rattle.cc_names.specs.declared.rows.Deed.{Deed}
use Rattle.cc_names.specs.declared.rows.Deed.TheVariants as deeds
use Rattle.cc_names.proofs.Common.{same_number}
use Rattle.base_model.specs.Blanked.{blank_outputs, blank_deed, blank_row, blank_unless, blanked_but, with_blanks, without_bytes}
use Rattle.base_model.specs.Blanked.{AreSameButForScrubbedOutputs}
use Rattle.base_model.specs.Changes.{live_row}
use Rattle.base_model.specs.Fits.{is_base}
use Rattle.base_model.specs.Rows.{Base, size, deed_at}
use Rattle.legal_history.specs.Builds.Values.{IsSound}
use Rattle.legal_history.proofs.Outputs.Alike.{base_alike, sound_alike}
use Rattle.legal_history.proofs.Outputs.Deeds.{deed_among}

outputs_twice : (outputs : List (List ℕ)) → blank_outputs (blank_outputs outputs) ≡ blank_outputs outputs
outputs_twice [] = refl
outputs_twice (output ∷ outputs) = λ i. [] ∷ outputs_twice outputs i

deed_twice : (deed : Deed) → blank_deed (blank_deed deed) ≡ blank_deed deed
deed_twice (deeds.Publish v targets script entries outputs) =
    λ i. deeds.Publish v targets script entries (outputs_twice outputs i)
deed_twice deed = refl

row_twice : (t : Bool) (row : Plain) → blank_row (blank_unless t row) ≡ blank_row row
row_twice true row = refl
row_twice false row = λ i. record row { deed = deed_twice row.deed i }

pub but_same : (keeps : ℕ → Bool) (b : Base) → with_blanks (blanked_but keeps b) ≡ with_blanks b
but_same keeps [] = refl
but_same keeps (row ∷ older) = λ i. row_twice (keeps (size older)) row i ∷ but_same keeps older i

but_size : (keeps : ℕ → Bool) (b : Base) → size (blanked_but keeps b) ≡ size b
but_size keeps [] = refl
but_size keeps (row ∷ older) = ap suc (but_size keeps older)

but_kept : (keeps : ℕ → Bool) (b : Base) (id : ℕ) → keeps id ≡ true → deed_at (blanked_but keeps b) id ≡ deed_at b id
but_kept keeps [] id keep = refl
but_kept keeps (row ∷ older) id keep =
    (λ i. deed_among (but_size keeps older i == id) (blank_unless (keeps (size older)) row) (blanked_but keeps older) id)
    ∙ by (size older == id) refl (but_kept keeps older id keep)
  where
    by : (t : Bool) → (size older == id) ≡ t → deed_at (blanked_but keeps older) id ≡ deed_at older id →
        deed_among t (blank_unless (keeps (size older)) row) (blanked_but keeps older) id ≡ deed_among t row older id
    by true is rest = λ i. Some ((blank_unless ((ap keeps (same_number (size older) id is) ∙ keep) i) row).deed)
    by false is rest = rest

pub emptied_alike : (b : Base) → AreSameButForScrubbedOutputs b (without_bytes b)
emptied_alike b =
    let lives : ℕ → Bool = λ id. is_some (live_row b id) in
    record { rows = sym (but_same lives b); kept = λ id is. but_kept lives b id is }

pub emptied_is_base : (b : Base) → is_base (without_bytes b) ≡ is_base b
emptied_is_base b = base_alike b (without_bytes b) (emptied_alike b).rows

pub emptied_is_sound : (b : Base) → is_base b ≡ true → IsSound b → IsSound (without_bytes b)
emptied_is_sound b = sound_alike b (without_bytes b) (emptied_alike b)

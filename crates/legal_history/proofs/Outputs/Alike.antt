-- Two bases that differ in outputs alone say the same, and one is sound where the other is and live objects are the same.
use Rattle.std.proofs.Common.{◌≡◌, refl, ap, sym, ◌∙◌, ℕ, Bool, true, false, not, ◌||◌, ◌==◌, Option, Some, None, List, [], ◌∷◌}
use Rattle.std.proofs.Common.{arith}
use Rattle.std.specs.Prelude.{is_some}
use Rattle.cc_names.specs.declared.rows.Deed.{Deed}
use Rattle.cc_names.specs.declared.rows.Deed.TheVariants as deeds
use Rattle.cc_names.proofs.Common.{same_number}
use Rattle.base_model.specs.Blanked.{blank_deed, with_blanks, AreSameButForOutputs, AreSameButForScrubbedOutputs}
use Rattle.base_model.specs.Changes.{live_row, targets_of}
use Rattle.base_model.specs.Closures.{is_publish, is_publish_deed}
use Rattle.base_model.specs.Fits.{fits, is_base}
use Rattle.base_model.specs.Rows.{Base, size, deed_at}
use Rattle.base_model.specs.Texts.{text}
use Rattle.legal_history.specs.Builds.Values.{is_true, is_true_deed, rerun, IsSound}
use Rattle.legal_history.proofs.Outputs.Deeds.{deed_among}
use Rattle.legal_history.proofs.Outputs.Fitting.{fits_same, base_same}
use Rattle.legal_history.proofs.Outputs.Reruns.{text_same, rerun_same}
use Rattle.legal_history.proofs.Outputs.States.{live_same, targets_same, publish_same}
use Rattle.legal_history.proofs.Reuse.SoundRows.{is_new, live_below, lived_before}
use Rattle.legal_history.proofs.Reuse.TrueObjects.{live_is_true, object_text}

-- what is the same of a blanked base is the same of two bases
by_blanked : {A : Type 0} (f : Base → A) → ((b : Base) → f (with_blanks b) ≡ f b) → (one two : Base) →
    AreSameButForOutputs one two → f two ≡ f one
by_blanked f h one two same = sym (h two) ∙ ap f (sym same) ∙ h one

pub fits_alike : (one two : Base) (deed other : Deed) → AreSameButForOutputs one two →
    blank_deed deed ≡ blank_deed other → fits two other ≡ fits one deed
fits_alike one two deed other same deeds = sym (fits_same two other) ∙ (λ i. fits (sym same i) (sym deeds i)) ∙ fits_same one deed

pub base_alike : (one two : Base) → AreSameButForOutputs one two → is_base two ≡ is_base one
base_alike = by_blanked is_base base_same

pub live_alike : (one two : Base) (id : ℕ) → AreSameButForOutputs one two → live_row two id ≡ live_row one id
live_alike one two id = by_blanked (λ b. live_row b id) (λ b. live_same b id) one two

pub targets_alike : (one two : Base) (id : ℕ) → AreSameButForOutputs one two → targets_of two id ≡ targets_of one id
targets_alike one two id = by_blanked (λ b. targets_of b id) (λ b. targets_same b id) one two

pub text_alike : (one two : Base) (r : ℕ) (path : List ℕ) → AreSameButForOutputs one two →
    is_base one ≡ true → is_publish one r ≡ false → text two r path ≡ text one r path
text_alike one two r path same base none =
    let none_two = by_blanked (λ b. is_publish b r) (λ b. publish_same b r) one two same ∙ none in
    sym (text_same two r path (base_alike one two same ∙ base) none_two) ∙ ap (λ b. text b r path) (sym same)
    ∙ text_same one r path base none

pub rerun_alike : (one two : Base) (id : ℕ) → AreSameButForOutputs one two → is_base one ≡ true → rerun two id ≡ rerun one id
rerun_alike one two id same base =
    sym (rerun_same two id (base_alike one two same ∙ base)) ∙ ap (λ b. rerun b id) (sym same) ∙ rerun_same one id base

pub sound_alike : (one two : Base) → AreSameButForScrubbedOutputs one two → is_base one ≡ true → IsSound one → IsSound two
sound_alike one two h base sound id =
    (λ i. not (is_some (live_alike one two id h.rows i)) || is_true two id) ∙ by (is_some (live_row one id)) refl
  where
    by : (t : Bool) → is_some (live_row one id) ≡ t → (not t || is_true two id) ≡ true
    by true lives =
        (λ i. is_true_deed (rerun_alike one two id h.rows base i) (h.kept id lives i)) ∙ live_is_true one id sound lives
    by false dead = refl

live_is_publish : (b : Base) (id : ℕ) → is_some (live_row b id) ≡ true → is_publish b id ≡ true
live_is_publish [] id h = absurd (cc)
live_is_publish (row ∷ older) id h = by (size older == id) refl (live_is_publish older id)
  where
    by : (t : Bool) → (size older == id) ≡ t → (is_some (live_row older id) ≡ true → is_publish older id ≡ true) →
        is_publish_deed (deed_among t row older id) ≡ true
    by true e rest =
        let number = same_number (size older) id e in
        is_new (size older) id row.deed (live_row older id) (λ before. let low = live_below older id before in omega arith) h
    by false e rest = rest (lived_before (size older) id row.deed (live_row older id) e h)

-- the text of a live object is one of its outputs, which are the same in both
pub live_text_alike : (one two : Base) (id : ℕ) (path : List ℕ) → AreSameButForScrubbedOutputs one two →
    is_some (live_row one id) ≡ true → text two id path ≡ text one id path
live_text_alike one two id path h lives = by (deed_at one id) refl (live_is_publish one id lives)
  where
    by : (o : Option Deed) → deed_at one id ≡ o → is_publish_deed o ≡ true → text two id path ≡ text one id path
    by None is published = absurd (cc)
    by (Some (deeds.Publish v targets script entries outputs)) is published =
        object_text two id v targets script entries outputs path (h.kept id lives ∙ is)
        ∙ sym (object_text one id v targets script entries outputs path is)
    by (Some deed) is published = absurd (cc)

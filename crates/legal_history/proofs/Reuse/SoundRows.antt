-- A base stays sound when a row is added, where an object that the row publishes is true.
use Rattle.std.proofs.Common.{◌≡◌, refl, subst, ◌∙◌, ℕ, suc, ◌<◌, Bool, true, false, not, ◌||◌, ◌==◌, Option, Some, [], ◌∷◌}
use Rattle.std.proofs.Common.{arith}
use Rattle.std.specs.List.{list_any}
use Rattle.std.specs.Prelude.{is_some}
use Rattle.cc_names.specs.Formed.{Plain}
use Rattle.cc_names.specs.Last.{Ends, Sets, only_if, value_after}
use Rattle.cc_names.specs.declared.rows.Deed.{Deed}
use Rattle.cc_names.specs.declared.rows.Deed.TheVariants as deeds
use Rattle.cc_names.proofs.Common.{same_number}
use Rattle.base_model.specs.Rows.{Base, size}
use Rattle.base_model.specs.Changes.{live_row, live_effect}
use Rattle.base_model.specs.Closures.{is_publish_deed}
use Rattle.base_model.proofs.VersionRows.{deed_stays}
use Rattle.legal_history.specs.Builds.Values.{is_true, is_true_deed, IsSound}
use Rattle.legal_history.proofs.Reuse.Reruns.{rerun_stays}
use Rattle.legal_history.proofs.Reuse.TrueObjects.{live_is_true}

-- an object that lives after a row is the one that the row published, or lived before
ended_by : (t : Bool) (before : Option ℕ) → is_some (value_after (only_if t Ends) before) ≡ true → is_some before ≡ true
ended_by true before h = absurd (cc)
ended_by false before h = h

set_or_lived : (t : Bool) (n : ℕ) (before : Option ℕ) → is_some (value_after (only_if t (Sets n)) before) ≡ true → t ≡ false
    → is_some before ≡ true
set_or_lived true n before h e = absurd (cc)
set_or_lived false n before h e = h

pub lived_before : (n id : ℕ) (deed : Deed) (before : Option ℕ) → (n == id) ≡ false
    → is_some (value_after (live_effect id n deed) before) ≡ true → is_some before ≡ true
lived_before n id (deeds.Publish v targets script entries outputs) before apart h = set_or_lived (n == id) n before h apart
lived_before n id (deeds.Scrub objects) before apart h = ended_by (list_any (λ object. object == id) objects) before h
lived_before n id deed before apart h = h

pub is_new : (n id : ℕ) (deed : Deed) (before : Option ℕ) → (is_some before ≡ true → ⊥)
    → is_some (value_after (live_effect id n deed) before) ≡ true → is_publish_deed (Some deed) ≡ true
is_new n id (deeds.Publish v targets script entries outputs) before none h = refl
is_new n id (deeds.Scrub objects) before none h = absurd (none (ended_by (list_any (λ object. object == id) objects) before h))
is_new n id deed before none h = absurd (none h)

pub live_below : (b : Base) (id : ℕ) → is_some (live_row b id) ≡ true → id < size b
live_below [] id h = absurd (cc)
live_below (row ∷ older) id h = by (size older == id) refl (live_below older id)
  where
    by : (t : Bool) → (size older == id) ≡ t → (is_some (live_row older id) ≡ true → id < size older) → id < suc (size older)
    by true e rest = let number = same_number (size older) id e in omega arith
    by false e rest = let low = rest (lived_before (size older) id row.deed (live_row older id) e h) in omega arith

true_stays : (row : Plain) (b : Base) (id : ℕ) → id < size b → is_true (row ∷ b) id ≡ is_true b id
true_stays row b id low = λ i. is_true_deed (rerun_stays row b id low i) (deed_stays row b id low i)

pub sound_row : (row : Plain) (b : Base) → IsSound b → (is_publish_deed (Some row.deed) ≡ true
    → is_true (row ∷ b) (size b) ≡ true) → IsSound (row ∷ b)
sound_row row b sound new id = by (is_some (live_row (row ∷ b) id)) refl
  where
    by_number : (t : Bool) → (size b == id) ≡ t → is_some (live_row (row ∷ b) id) ≡ true → is_true (row ∷ b) id ≡ true
    by_number true e h =
        let number : size b ≡ id = same_number (size b) id e in
        let none : is_some (live_row b id) ≡ true → ⊥ = λ before. let low = live_below b id before in omega arith in
        subst (λ k. is_true (row ∷ b) k ≡ true) number (new (is_new (size b) id row.deed (live_row b id) none h))
    by_number false e h =
        let before = lived_before (size b) id row.deed (live_row b id) e h in
        true_stays row b id (live_below b id before) ∙ live_is_true b id sound before

    by : (t : Bool) → is_some (live_row (row ∷ b) id) ≡ t → (not t || is_true (row ∷ b) id) ≡ true
    by true h = by_number (size b == id) refl h
    by false h = refl

-- row 0 is no object
pub live_above : (b : Base) (id : ℕ) → is_some (live_row b id) ≡ true → 0 < id
live_above [] id h = absurd (cc)
live_above (row ∷ older) id h = by (size older == id) refl (live_above older id)
  where
    by : (t : Bool) → (size older == id) ≡ t → (is_some (live_row older id) ≡ true → 0 < id) → 0 < id
    by true e rest = let number = same_number (size older) id e in omega arith
    by false e rest = rest (lived_before (size older) id row.deed (live_row older id) e h)

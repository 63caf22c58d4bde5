-- Frames that name no extent represent the bases whose rows they spell and no others, and are damaged as they are by themselves.
use Rattle.std.proofs.Common.{◌≡◌, refl, ap, sym, ◌∙◌, subst, ℕ, Bool, true, List, [], ◌∷◌, ◌++◌, length, map, get_or}
use Rattle.std.proofs.lemmas.Bool.{and_parts}
use Rattle.std.specs.List.{AllByRecursion}
use Rattle.cc_names.specs.Formed.{Plain}
use Rattle.cc_names.specs.declared.rows.Deed.{Deed}
use Rattle.cc_names.specs.declared.rows.Deed.TheVariants as deeds
use Rattle.base_model.specs.Fits.{fits}
use Rattle.base_model.specs.Rows.{Base, size}
use Rattle.container_store.specs.Extents.{may_take}
use Rattle.row_form.specs.Spelled.{spelling_of, code_of}
use Rattle.story_log.specs.Stored.Payloads.{payloads}
use Rattle.story_log.specs.Stored.Damaged.{IsDamaged}
use Rattle.story_log.specs.Stored.Founds.{FoundFiles, IsDeedOf, AreRowsOf, is_live, Represents}
use Rattle.story_log.specs.Stored.Fitting.{plain_rows, fits_stored, are_stored_rows}
use Rattle.story_log.specs.Stored.Taken.{extent_of_owned, extents_of, taken}
use Rattle.story_log.specs.Stored.WithoutExtents.{HasNoExtent, IsDamagedFrame, RepresentedHasNoExtent, SpelledIsRepresented}
use Rattle.story_log.specs.Stored.WithoutExtents.{WithoutExtentsDamageIsOfFrames, WithoutExtentsNothingChanges}
use Rattle.story_log.proofs.Stored.Bases.{base_is_itself}
use Rattle.story_log.proofs.Stored.Damaged.{damaged_here}
use Rattle.story_log.proofs.Stored.Fitting.{base_is_stored, fits_as_stored, is_not_at_extents, stored_are_base}

pub spelled_is_represented : SpelledIsRepresented
spelled_is_represented found b base formed spelled = record {
  stored = b;
  spelled = spelled;
  formed = formed;
  good = base_is_stored (length found.objects) b base;
  rows = base_is_itself (is_live b) found.objects b base;
}

-- a row whose code is not 23 is spelled as it is
code_at : (row : Plain) → get_or (spelling_of row) 21 0 ≡ code_of row.deed
code_at row = refl

deed_as_spelt : (lives : Bool) (objects : List ℕ) (spelt deed : Deed) → (code_of spelt ≡ 23 → ⊥)
    → IsDeedOf lives objects spelt deed → deed ≡ spelt
deed_as_spelt lives objects (deeds.PublishAt view targets script entries stored) deed none is = absurd (none refl)
deed_as_spelt lives objects spelt deed none is = is

all_of_first : {A : Type 0} (P : A → Type 0) (xs ys : List A) → AllByRecursion P (xs ++ ys) → AllByRecursion P xs
all_of_first P [] ys all = tt
all_of_first P (x ∷ xs) ys all = (all.0, all_of_first P xs ys all.1)

all_back : {A : Type 0} (P : A → Type 0) (xs ys : List A) → AllByRecursion P (xs ++ ys) → AllByRecursion P ys
all_back P [] ys all = all
all_back P (x ∷ xs) ys all = all_back P xs ys all.1

all_both : {A : Type 0} (P : A → Type 0) (xs ys : List A) → AllByRecursion P xs → AllByRecursion P ys → AllByRecursion P (xs ++ ys)
all_both P [] ys one two = two
all_both P (x ∷ xs) ys one two = (one.0, all_both P xs ys one.1 two)

rows_as_spelt : (lives : ℕ → Bool) (objects : List ℕ) (stored b : Base) → AllByRecursion HasNoExtent (payloads stored)
    → AreRowsOf lives objects stored b → b ≡ stored
rows_as_spelt lives objects [] [] none are = refl
rows_as_spelt lives objects [] (row ∷ older) none are = absurd are
rows_as_spelt lives objects (spelt ∷ earlier) [] none are = absurd are
rows_as_spelt lives objects (spelt ∷ earlier) (row ∷ older) none are =
    let here = (all_back HasNoExtent (payloads earlier) (spelling_of spelt ∷ []) none).0 in
    let deed = deed_as_spelt (lives (size older)) objects spelt.deed row.deed (λ code. here (code_at spelt ∙ code)) are.0.deed in
    let rest = rows_as_spelt lives objects earlier older (all_of_first HasNoExtent (payloads earlier) (spelling_of spelt ∷ [])
    none)
    are.1 in
    λ i. record { tag = are.0.tag i; moment = are.0.moment i; deed = deed i } ∷ rest i

pub represented_is_spelled : (found : FoundFiles) (b : Base) → AllByRecursion HasNoExtent found.frames → Represents found b
    → found.frames ≡ payloads b
represented_is_spelled found b none r =
    let plain = subst (AllByRecursion HasNoExtent) r.spelled none in
    r.spelled ∙ ap payloads (sym (rows_as_spelt (is_live b) found.objects r.stored b plain r.rows))

pub nothing_changes : WithoutExtentsNothingChanges
nothing_changes found b none base formed = (represented_is_spelled found b none, spelled_is_represented found b base formed)

-- the rows of what represents a base fit, and a publish at extents does not
none_named : (length : ℕ) (stored : Base) → are_stored_rows length stored ≡ true → AllByRecursion HasNoExtent (payloads stored)
none_named length [] good = tt
none_named length (row ∷ older) good =
    let here = and_parts (fits_stored length older row.deed) (are_stored_rows length older) good in
    let fit = and_parts (fits (plain_rows older) row.deed)
    (may_take length (map extent_of_owned (taken older)) (extents_of row.deed)) here.0 in
    all_both HasNoExtent (payloads older) (spelling_of row ∷ []) (none_named length older here.1)
    (λ code. is_not_at_extents (plain_rows older) row.deed fit.0 (sym (code_at row) ∙ code), tt)

pub represented_names_none : RepresentedHasNoExtent
represented_names_none found b r =
    subst (AllByRecursion HasNoExtent) (sym r.spelled) (none_named (length found.objects) r.stored r.good)

-- damage
pub damage_of_frames : WithoutExtentsDamageIsOfFrames
damage_of_frames found n none = (of_frames, of_found)
  where
    of_frames : IsDamaged found n → IsDamagedFrame found.frames n
    of_frames h = record {
      base = h.stored;
      payload = h.payload;
      rest = h.rest;
      list_is = h.list_is;
      number = h.number;
      good = stored_are_base (length found.objects) h.stored h.good;
      formed = h.formed;
      unfit = λ row keeps spells fit. h.unfit row keeps spells
          (fits_as_stored (length found.objects) h.stored row.deed h.good fit);
    }

    of_found : IsDamagedFrame found.frames n → IsDamaged found n
    of_found h = damaged_here found h.base h.payload h.rest n h.good h.formed h.list_is h.number h.unfit

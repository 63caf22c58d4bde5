-- A row that fits a base names no extent, so its frame spells it as it is.
use Rattle.std.proofs.Common.{◌≡◌, refl, ap, sym, ◌∙◌, ℕ, Bool, true, false, ltb, List, [], ◌∷◌, map, arith}
use Rattle.std.specs.Prelude.{◌&&◌}
use Rattle.std.proofs.lemmas.Bool.{and_parts, and_from}
use Rattle.cc_names.specs.Formed.{Plain}
use Rattle.cc_names.specs.declared.rows.Deed.{Deed}
use Rattle.cc_names.specs.declared.rows.Deed.TheVariants as deeds
use Rattle.base_model.specs.Fits.{row_limit, fits, is_base}
use Rattle.base_model.specs.Rows.{Base, size}
use Rattle.container_store.specs.Extents.{may_take}
use Rattle.row_form.specs.Extents.{plain_deed}
use Rattle.row_form.specs.Spelled.{code_of}
use Rattle.story_log.specs.Stored.Taken.{ObjectExtent, extent_of_owned, extents_of, taken_after, taken}
use Rattle.story_log.specs.Stored.Fitting.{plain_rows, fits_stored, are_stored_rows}
use Rattle.story_log.specs.Stored.Founds.{IsDeedOf}
use Rattle.story_log.specs.Stored.Opened.{deed_opened}

never : (x : Bool) → (x && false) ≡ true → ⊥
never true h = cc
never false h = cc

-- of a deed that fits
pub fits_plain : (b : Base) (deed : Deed) → fits b deed ≡ true → plain_deed deed ≡ deed
fits_plain b (deeds.PublishAt view targets script entries outputs) fit = absurd (never (ltb (size b) row_limit) fit)
fits_plain b deed fit = refl

pub fits_opened : (lives : Bool) (objects : List ℕ) (b : Base) (deed : Deed) → fits b deed ≡ true
    → deed_opened lives objects deed ≡ deed
fits_opened lives objects b (deeds.PublishAt view targets script entries outputs) fit =
    absurd (never (ltb (size b) row_limit) fit)
fits_opened lives objects b deed fit = refl

pub no_extents : (b : Base) (deed : Deed) → fits b deed ≡ true → extents_of deed ≡ []
no_extents b (deeds.PublishAt view targets script entries outputs) fit = absurd (never (ltb (size b) row_limit) fit)
no_extents b deed fit = refl

pub is_not_at_extents : (b : Base) (deed : Deed) → fits b deed ≡ true → code_of deed ≡ 23 → ⊥
is_not_at_extents b (deeds.PublishAt view targets script entries outputs) fit code = absurd (never (ltb (size b) row_limit) fit)
is_not_at_extents b deed fit code = omega (arith, code)

pub fits_free : (n : ℕ) (b : Base) (deed : Deed) (held : List ObjectExtent) → fits b deed ≡ true
    → may_take n (map extent_of_owned held) (extents_of deed) ≡ true
fits_free n b (deeds.PublishAt view targets script entries outputs) held fit = absurd (never (ltb (size b) row_limit) fit)
fits_free n b deed held fit = refl

pub fits_so : (lives : Bool) (objects : List ℕ) (b : Base) (deed : Deed) → fits b deed ≡ true → IsDeedOf lives objects deed deed
fits_so lives objects b (deeds.PublishAt view targets script entries outputs) fit = absurd (never (ltb (size b) row_limit) fit)
fits_so lives objects b deed fit = refl

pub takes_nothing : (n : ℕ) (b : Base) (deed : Deed) → fits b deed ≡ true → taken_after n deed [] ≡ []
takes_nothing n b (deeds.PublishAt view targets script entries outputs) fit = absurd (never (ltb (size b) row_limit) fit)
takes_nothing n b deed fit = refl

-- of the rows of a base
pub base_is_plain : (b : Base) → is_base b ≡ true → plain_rows b ≡ b
base_is_plain [] base = refl
base_is_plain (row ∷ older) base =
    let each = and_parts (fits older row.deed) (is_base older) base in
    λ i. record { tag = row.tag; moment = row.moment; deed = fits_plain older row.deed each.0 i } ∷ base_is_plain older each.1 i

pub nothing_taken : (b : Base) → is_base b ≡ true → taken b ≡ []
nothing_taken [] base = refl
nothing_taken (row ∷ older) base =
    let each = and_parts (fits older row.deed) (is_base older) base in
    ap (taken_after (size older) row.deed) (nothing_taken older each.1) ∙ takes_nothing (size older) older row.deed each.0

pub base_is_stored : (n : ℕ) (b : Base) → is_base b ≡ true → are_stored_rows n b ≡ true
base_is_stored n [] base = refl
base_is_stored n (row ∷ older) base =
    let each = and_parts (fits older row.deed) (is_base older) base in
    let free = may_take n (map extent_of_owned (taken older)) (extents_of row.deed) in
    let fit : fits (plain_rows older) row.deed ≡ true = (λ i. fits (base_is_plain older each.1 i) row.deed) ∙ each.0 in
    and_from (fits (plain_rows older) row.deed && free) (are_stored_rows n older)
    (and_from (fits (plain_rows older) row.deed) free fit (fits_free n older row.deed (taken older) each.0))
    (base_is_stored n older each.1)

pub fits_as_plain : (n : ℕ) (b : Base) (deed : Deed) → is_base b ≡ true → fits_stored n b deed ≡ true → fits b deed ≡ true
fits_as_plain n b deed base fit =
    ap (λ plain. fits plain deed) (sym (base_is_plain b base))
    ∙ (and_parts (fits (plain_rows b) deed) (may_take n (map extent_of_owned (taken b)) (extents_of deed)) fit).0

-- of rows that frames spell, where they may follow one another
fits_before : (n : ℕ) (row : Plain) (older : Base) → are_stored_rows n (row ∷ older) ≡ true
    → (fits (plain_rows older) row.deed ≡ true) × (are_stored_rows n older ≡ true)
fits_before n row older good =
    let fit = fits (plain_rows older) row.deed in
    let free = may_take n (map extent_of_owned (taken older)) (extents_of row.deed) in
    let each = and_parts (fit && free) (are_stored_rows n older) good in
    ((and_parts fit free each.0).0, each.1)

pub stored_are_plain : (n : ℕ) (stored : Base) → are_stored_rows n stored ≡ true → plain_rows stored ≡ stored
stored_are_plain n [] good = refl
stored_are_plain n (row ∷ older) good =
    let each = fits_before n row older good in
    λ i. record { tag = row.tag; moment = row.moment; deed = fits_plain (plain_rows older) row.deed each.0 i }
    ∷ stored_are_plain n older each.1 i

pub stored_are_base : (n : ℕ) (stored : Base) → are_stored_rows n stored ≡ true → is_base stored ≡ true
stored_are_base n [] good = refl
stored_are_base n (row ∷ older) good =
    let each = fits_before n row older good in
    and_from (fits older row.deed) (is_base older)
    (ap (λ b. fits b row.deed) (sym (stored_are_plain n older each.1)) ∙ each.0) (stored_are_base n older each.1)

pub fits_as_stored : (n : ℕ) (stored : Base) (deed : Deed) → are_stored_rows n stored ≡ true → fits stored deed ≡ true
    → fits_stored n stored deed ≡ true
fits_as_stored n stored deed good fit =
    and_from (fits (plain_rows stored) deed) (may_take n (map extent_of_owned (taken stored)) (extents_of deed))
    (ap (λ b. fits b deed) (stored_are_plain n stored good) ∙ fit) (fits_free n stored deed (taken stored) fit)

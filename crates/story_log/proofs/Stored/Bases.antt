-- The frames of a base without extents: the file of objects keeps it whatever its bytes are, and what is found opens to it.
use Rattle.std.proofs.Common.{◌≡◌, refl, sym, ◌∙◌, subst, ℕ, Bool, true, List, [], ◌∷◌, length, map, arith}
use Rattle.std.specs.List.{AllByRecursion}
use Rattle.std.proofs.lemmas.Bool.{and_parts, and_from}
use Rattle.cc_names.specs.Formed.{Plain}
use Rattle.cc_names.specs.declared.rows.Deed.{Deed}
use Rattle.cc_names.specs.declared.rows.Extent.{Extent}
use Rattle.disk_model.specs.Files.{File, stable}
use Rattle.base_model.specs.Blanked.{AreSameButForOutputs}
use Rattle.base_model.specs.Fits.{fits, is_base}
use Rattle.base_model.specs.Rows.{Base, size}
use Rattle.legal_history.proofs.Outputs.Alike.{fits_alike}
use Rattle.container_store.specs.Extents.{may_take}
use Rattle.story_log.specs.Story.Formed.{AreFormed}
use Rattle.story_log.specs.Stored.Fitting.{plain_rows, fits_stored}
use Rattle.story_log.specs.Stored.Founds.{FoundFiles, AreRowsOf, is_live}
use Rattle.story_log.specs.Stored.Kept.{IsKept, OfLive, IsHeld}
use Rattle.story_log.specs.Stored.Opened.{rows_opened, base_opened, IsOpenedAs}
use Rattle.story_log.specs.Stored.Payloads.{payloads}
use Rattle.story_log.specs.Stored.Taken.{extent_of_owned, extents_of, taken}
use Rattle.story_log.proofs.Stored.Alike.{represented_alike}
use Rattle.story_log.proofs.Stored.Fitting.{base_is_stored, fits_free, fits_opened, fits_so, no_extents}
use Rattle.story_log.proofs.Stored.Holding.{held_with_row}

-- each row is as its frame spells it
pub base_is_itself : (lives : ℕ → Bool) (objects : List ℕ) (b : Base) → is_base b ≡ true → AreRowsOf lives objects b b
base_is_itself lives objects [] base = tt
base_is_itself lives objects (row ∷ older) base =
    let each = and_parts (fits older row.deed) (is_base older) base in (
      record { tag = refl; moment = refl; deed = fits_so (lives (size older)) objects older row.deed each.0 },
      base_is_itself lives objects older each.1,
    )

rows_open : (lives : ℕ → Bool) (objects : List ℕ) (b : Base) → is_base b ≡ true → rows_opened lives objects b ≡ b
rows_open lives objects [] base = refl
rows_open lives objects (row ∷ older) base =
    let each = and_parts (fits older row.deed) (is_base older) base in
    λ i. record {
      tag = row.tag;
      moment = row.moment;
      deed = fits_opened (lives (size older)) objects older row.deed each.0 i;
    }
    ∷ rows_open lives objects older each.1 i

pub opens_itself : (objects : List ℕ) (b : Base) → is_base b ≡ true → base_opened objects b ≡ b
opens_itself objects b base = rows_open (is_live (plain_rows b)) objects b base

pub opens_as : (found : FoundFiles) (b : Base) → found.frames ≡ payloads b → is_base b ≡ true → AreFormed b → IsOpenedAs found b
opens_as found b spelled base formed = record {
  stored = b;
  spelled = spelled;
  formed = formed;
  good = base_is_stored (length found.objects) b base;
  is = sym (opens_itself found.objects b base);
}

-- no extent is to be kept
none_of_live : (P : Extent → Type 0) (lives : ℕ → Bool) (b : Base) → is_base b ≡ true → OfLive P lives b
none_of_live P lives [] base = tt
none_of_live P lives (row ∷ older) base =
    let each = and_parts (fits older row.deed) (is_base older) base in
    (λ live. subst (AllByRecursion P) (sym (no_extents older row.deed each.0)) tt, none_of_live P lives older each.1)

pub base_is_held : (bytes : List ℕ) (b : Base) → is_base b ≡ true → IsHeld (stable bytes) b b
base_is_held bytes b base = record {
  reads = omega arith;
  good = base_is_stored (length bytes) b base;
  kept = none_of_live (IsKept (stable bytes)) (is_live b) b base;
  rows = base_is_itself (is_live b) bytes b base;
}

-- one more row that fits the base, which is spelled as it is
fits_behind : (n : ℕ) (stored b : Base) (deed : Deed) → AreSameButForOutputs (plain_rows stored) b → fits b deed ≡ true
    → fits_stored n stored deed ≡ true
fits_behind n stored b deed alike fit =
    let same : fits (plain_rows stored) deed ≡ true = sym (fits_alike (plain_rows stored) b deed deed alike refl) ∙ fit in
    and_from (fits (plain_rows stored) deed) (may_take n (map extent_of_owned (taken stored)) (extents_of deed)) same
    (fits_free n b deed (taken stored) fit)

pub held_with_fitting : (file : File) (stored b : Base) (row : Plain) → IsHeld file stored b → fits b row.deed ≡ true
    → IsHeld file (row ∷ stored) (row ∷ b)
held_with_fitting file stored b row held fit =
    let alike : AreSameButForOutputs (plain_rows stored) b = represented_alike (is_live b) file.bytes stored b held.rows in
    held_with_row file stored b row row held (fits_behind file.least stored b row.deed alike fit)
    (record { tag = refl; moment = refl; deed = fits_so (is_live (row ∷ b) (size b)) file.bytes b row.deed fit })
    (λ live. subst (AllByRecursion (IsKept file)) (sym (no_extents b row.deed fit)) tt)

-- What a file of objects has of a base stays through writes beside it and through a sync, and is found in every image.
use Rattle.std.proofs.Common.{◌≡◌, refl, ap, sym, ◌∙◌, ℕ, ◌<◌, ◌≤◌, Bool, true, false, ◌&&◌, ◌==◌, List, [], ◌∷◌, length, map}
use Rattle.std.proofs.Common.{arith}
use Rattle.std.specs.List.{AllByRecursion}
use Rattle.std.proofs.lemmas.Bool.{and_parts, and_from}
use Rattle.cc_names.specs.Formed.{Plain}
use Rattle.cc_names.specs.declared.rows.Extent.{Extent}
use Rattle.cc_names.specs.declared.rows.Stored.{Stored}
use Rattle.cc_names.specs.declared.rows.Stored.TheVariants.{Here, There}
use Rattle.cc_names.specs.declared.rows.Deed.{Deed}
use Rattle.cc_names.specs.declared.rows.Deed.TheVariants as deeds
use Rattle.disk_model.specs.Files.{File, stable, IsImage, IsTorn}
use Rattle.disk_model.specs.Devices.{written_to}
use Rattle.base_model.specs.Changes.{live_row}
use Rattle.base_model.specs.Fits.{fits}
use Rattle.base_model.specs.Rows.{Base, size}
use Rattle.cc_names.proofs.Common.{same_number}
use Rattle.legal_history.proofs.Reuse.SoundRows.{lived_before}
use Rattle.container_store.specs.Extents.{are_apart, extent_at, may_take}
use Rattle.container_store.proofs.Placing.{taken_in_longer}
use Rattle.story_log.specs.Story.Formed.{AreFormed}
use Rattle.story_log.specs.Stored.Payloads.{payloads}
use Rattle.story_log.specs.Stored.Taken.{extent_of_owned, extents_of, taken}
use Rattle.story_log.specs.Stored.Fitting.{plain_rows, fits_stored, are_stored_rows}
use Rattle.story_log.specs.Stored.Founds.{AreOutputs, IsDeedOf, IsRowOf, AreRowsOf, is_live, Represents}
use Rattle.story_log.specs.Stored.Kept.{IsKept, OfLive, IsHeld}
use Rattle.story_log.proofs.Stored.Alike.{same_size}
use Rattle.story_log.proofs.Stored.Keeping.{rows_in_image, rows_beside, live_weaker, still_kept, kept_by_sync}

-- rows that fit do so in a longer file
pub rows_fit_longer : (n m : ℕ) (stored : Base) → n ≤ m → are_stored_rows n stored ≡ true → are_stored_rows m stored ≡ true
rows_fit_longer n m [] le good = refl
rows_fit_longer n m (row ∷ older) le good =
    let held = map extent_of_owned (taken older) in
    let fit = fits (plain_rows older) row.deed in
    let each = and_parts (fit && may_take n held (extents_of row.deed)) (are_stored_rows n older) good in
    let first = and_parts fit (may_take n held (extents_of row.deed)) each.0 in
    and_from (fit && may_take m held (extents_of row.deed)) (are_stored_rows m older)
    (and_from fit (may_take m held (extents_of row.deed)) first.0 (taken_in_longer n m held (extents_of row.deed) le first.1))
    (rows_fit_longer n m older le each.1)

-- the bytes of a file of objects have the rows of a base, by the rows that frames spell
record HasRows (objects : List ℕ) (stored b : Base) : Type 0 where
  good : are_stored_rows (length objects) stored ≡ true
  rows : AreRowsOf (is_live b) objects stored b

-- every image has the rows
has_rows : (file : File) (stored b : Base) (image : List ℕ) → IsHeld file stored b → IsImage file image
    → HasRows image stored b
has_rows file stored b image held is = record {
  good = rows_fit_longer file.least (length image) stored is.no_shorter held.good;
  rows = rows_in_image (is_live b) file held.reads image is stored b held.kept held.rows;
}

-- so every stop finds the base
pub held_in_image : (file : File) (stored b : Base) (frames : List (List ℕ)) (image : List ℕ) → IsHeld file stored b
    → AreFormed stored
    → frames ≡ payloads stored → IsImage file image → Represents (record { frames = frames; objects = image }) b
held_in_image file stored b frames image held formed spelled is = record {
  stored = stored;
  spelled = spelled;
  formed = formed;
  good = (has_rows file stored b image held is).good;
  rows = (has_rows file stored b image held is).rows;
}

-- what is so of each live extent
each_both : (P Q : Extent → Type 0) (es : List Extent) → AllByRecursion P es → AllByRecursion Q es
    → AllByRecursion (λ (e : Extent). P e × Q e) es
each_both P Q [] p q = tt
each_both P Q (e ∷ es) p q = ((p.0, q.0), each_both P Q es p.1 q.1)

pub live_both : (P Q : Extent → Type 0) (lives : ℕ → Bool) (stored : Base) → OfLive P lives stored → OfLive Q lives stored
    → OfLive (λ (e : Extent). P e × Q e) lives stored
live_both P Q lives [] p q = tt
live_both P Q lives (row ∷ older) p q = (
  λ live. each_both P Q (extents_of row.deed) (p.0 live) (q.0 live),
  live_both P Q lives older p.1 q.1,
)

-- a write that lies apart from each live extent
abbrev pub LiesApart : ℕ → ℕ → Extent → Type 0
LiesApart place size e = are_apart e (extent_at place size) ≡ true

pub held_beside_write : (file : File) (stored b : Base) (place size : ℕ) (left : List ℕ) → IsHeld file stored b
    → OfLive (LiesApart place size) (is_live b) stored
    → IsTorn place size file.bytes left → IsHeld (written_to file place size left) stored b
held_beside_write file stored b place size left held apart torn =
    let both = live_both (IsKept file) (LiesApart place size) (is_live b) stored held.kept apart in
    record {
      reads = omega (arith, held.reads, torn.no_shorter);
      good = held.good;
      kept = live_weaker (λ (e : Extent). IsKept file e × LiesApart place size e) (IsKept (written_to file place size left))
          (is_live b) stored
          (λ e h. still_kept file held.reads e h.0 place size left h.1 torn) both;
      rows = rows_beside (is_live b) file held.reads place size left torn stored b both held.rows;
    }

-- a sync
pub held_by_sync : (file : File) (stored b : Base) → IsHeld file stored b → IsHeld (stable file.bytes) stored b
held_by_sync file stored b held = record {
  reads = omega arith;
  good = rows_fit_longer file.least (length file.bytes) stored held.reads held.good;
  kept = live_weaker (IsKept file) (IsKept (stable file.bytes)) (is_live b) stored
      (λ e kept. kept_by_sync file.bytes e (omega (arith, kept.within, held.reads))) held.kept;
  rows = held.rows;
}

-- one more row
fewer_outputs : (lives fewer : Bool) (objects : List ℕ) (stored : List Stored) (outputs : List (List ℕ))
    → (fewer ≡ true → lives ≡ true)
    → AreOutputs lives objects stored outputs → AreOutputs fewer objects stored outputs
fewer_outputs lives fewer objects [] [] less are = tt
fewer_outputs lives fewer objects [] (output ∷ outputs) less are = absurd are
fewer_outputs lives fewer objects (stored ∷ more) [] less are = absurd are
fewer_outputs lives fewer objects (Here bytes ∷ more) (output ∷ outputs) less are =
    (are.0, fewer_outputs lives fewer objects more outputs less are.1)
fewer_outputs lives fewer objects (There e ∷ more) (output ∷ outputs) less are =
    (λ live. are.0 (less live), fewer_outputs lives fewer objects more outputs less are.1)

fewer_deed : (lives fewer : Bool) (objects : List ℕ) (spelt deed : Deed) → (fewer ≡ true → lives ≡ true)
    → IsDeedOf lives objects spelt deed → IsDeedOf fewer objects spelt deed
fewer_deed lives fewer objects (deeds.PublishAt view targets script entries stored) deed less is =
    (is.0, is.1, fewer_outputs lives fewer objects stored is.0 less is.2)
fewer_deed lives fewer objects spelt deed less is = is

module _ (lives fewer : ℕ → Bool) where
  pub fewer_rows : (objects : List ℕ) (stored b : Base) → ((id : ℕ) → id < size b → fewer id ≡ true → lives id ≡ true)
      → AreRowsOf lives objects stored b → AreRowsOf fewer objects stored b
  fewer_rows objects [] [] less are = tt
  fewer_rows objects [] (row ∷ older) less are = absurd are
  fewer_rows objects (spelt ∷ earlier) [] less are = absurd are
  fewer_rows objects (spelt ∷ earlier) (row ∷ older) less are = (
    record {
      tag = are.0.tag;
      moment = are.0.moment;
      deed = fewer_deed (lives (size older)) (fewer (size older)) objects spelt.deed row.deed (less (size older) (omega arith))
          are.0.deed;
    },
    fewer_rows objects earlier older (λ id low. less id (omega arith)) are.1,
  )

  pub fewer_live : (P : Extent → Type 0) (stored : Base) → ((id : ℕ) → id < size stored → fewer id ≡ true → lives id ≡ true)
      → OfLive P lives stored → OfLive P fewer stored
  fewer_live P [] less all = tt
  fewer_live P (row ∷ older) less all = (
    λ live. all.0 (less (size older) (omega arith) live),
    fewer_live P older (λ id low. less id (omega arith)) all.1,
  )

-- an object below a row lived before it
pub lived : (row : Plain) (b : Base) (id : ℕ) → id < size b → is_live (row ∷ b) id ≡ true → is_live b id ≡ true
lived row b id low live = lived_before (size b) id row.deed (live_row b id) (other (size b == id) refl) live
  where
    other : (t : Bool) → (size b == id) ≡ t → t ≡ false
    other true e = let number = same_number (size b) id e in absurd (omega arith)
    other false e = refl

pub held_with_row : (file : File) (stored b : Base) (spelt row : Plain) → IsHeld file stored b
    → fits_stored file.least stored spelt.deed ≡ true
    → IsRowOf (is_live (row ∷ b) (size b)) file.bytes spelt row → (is_live (row ∷ b) (size b) ≡ true
    → AllByRecursion (IsKept file) (extents_of spelt.deed))
    → IsHeld file (spelt ∷ stored) (row ∷ b)
held_with_row file stored b spelt row held fit is kept =
    let number = same_size (is_live b) file.bytes stored b held.rows in
    let less : (id : ℕ) → id < size b → is_live (row ∷ b) id ≡ true → is_live b id ≡ true =
    λ id low live. lived row b id low live in
    record {
      reads = held.reads;
      good = and_from (fits_stored file.least stored spelt.deed) (are_stored_rows file.least stored) fit held.good;
      kept = (
        λ live. kept (ap (is_live (row ∷ b)) (sym number) ∙ live),
        fewer_live (is_live b) (is_live (row ∷ b)) (IsKept file) stored (λ id low. less id (omega (arith, number))) held.kept,
      );
      rows = (is, fewer_rows (is_live b) (is_live (row ∷ b)) file.bytes stored b less held.rows);
    }

-- The base that is opened is one that the disk represents.
use Rattle.std.proofs.Common.{◌≡◌, refl, ap, sym, subst, ℕ, ◌-◌, ◌≤◌, Bool, true, false, ◌&&◌, List, [], ◌∷◌, length, map, drop}
use Rattle.std.proofs.Common.{arith, length-take, length-drop}
use Rattle.std.proofs.lemmas.Bool.{and_parts}
use Rattle.cc_names.specs.declared.rows.Extent.{Extent}
use Rattle.cc_names.specs.declared.rows.Stored.{Stored}
use Rattle.cc_names.specs.declared.rows.Stored.TheVariants.{Here, There}
use Rattle.cc_names.specs.declared.rows.Deed.{Deed}
use Rattle.cc_names.specs.declared.rows.Deed.TheVariants as deeds
use Rattle.base_model.specs.Fits.{fits}
use Rattle.base_model.specs.Rows.{Base, size}
use Rattle.container_store.specs.Extents.{place_behind, end_of, may_take}
use Rattle.container_store.proofs.Placing.{taken_within}
use Rattle.story_log.specs.Story.Formed.{AreFormed}
use Rattle.story_log.specs.Stored.Payloads.{payloads}
use Rattle.story_log.specs.Stored.Taken.{extent_of_owned, extents_in, extents_of, taken}
use Rattle.story_log.specs.Stored.Fitting.{plain_rows, are_stored_rows}
use Rattle.story_log.specs.Stored.Founds.{FoundFiles, bytes_at, IsOutput, AreOutputs, IsDeedOf, AreRowsOf, is_live, Represents}
use Rattle.story_log.specs.Stored.Opened.{output_opened, deed_opened, rows_opened, base_opened}
use Rattle.story_log.proofs.Stored.Alike.{opened_size, opened_alike, same_live}

-- an extent that lies in the file has its length there
pub bytes_long : (objects : List ℕ) (e : Extent) → place_behind e ≤ length objects → e.length ≡ length (bytes_at objects e)
bytes_long objects e within = omega (arith, length-take e.length (drop e.place objects), length-drop e.place objects)

-- outputs
output_is : (lives : Bool) (objects : List ℕ) (e : Extent) → place_behind e ≤ length objects
    → IsOutput lives objects (There e) (output_opened lives objects (There e))
output_is true objects e within = λ h. (bytes_long objects e within, refl)
output_is false objects e within = λ h. absurd (cc)

outputs_are : (lives : Bool) (objects : List ℕ) (outputs : List Stored) → end_of (extents_in outputs) ≤ length objects
    → AreOutputs lives objects outputs (map (output_opened lives objects) outputs)
outputs_are lives objects [] within = tt
outputs_are lives objects (Here bytes ∷ more) within = (refl, outputs_are lives objects more within)
outputs_are lives objects (There e ∷ more) within =
    (output_is lives objects e (omega (arith, within)), outputs_are lives objects more (omega (arith, within)))

deed_is : (lives : Bool) (objects : List ℕ) (deed : Deed) → end_of (extents_of deed) ≤ length objects
    → IsDeedOf lives objects deed (deed_opened lives objects deed)
deed_is lives objects (deeds.PublishAt view targets script entries outputs) within =
    (map (output_opened lives objects) outputs, refl, outputs_are lives objects outputs within)
deed_is lives objects deed within = refl

pub rows_are_opened : (lives : ℕ → Bool) (objects : List ℕ) (stored : Base) → are_stored_rows (length objects) stored ≡ true
    → AreRowsOf lives objects stored (rows_opened lives objects stored)
rows_are_opened lives objects [] good = tt
rows_are_opened lives objects (row ∷ older) good =
    let n = length objects in
    let fit = fits (plain_rows older) row.deed in
    let free = may_take n (map extent_of_owned (taken older)) (extents_of row.deed) in
    let each = and_parts (fit && free) (are_stored_rows n older) good in
    let first = and_parts fit free each.0 in
    let within = taken_within n (map extent_of_owned (taken older)) (extents_of row.deed) first.1 in
    let number = ap lives (sym (opened_size lives objects older)) in (
      record {
        tag = refl;
        moment = refl;
        deed = subst (λ b. IsDeedOf b objects row.deed (deed_opened (lives (size older)) objects row.deed)) number
            (deed_is (lives (size older)) objects row.deed within);
      },
      rows_are_opened lives objects older each.1,
    )

-- so it is represented
pub represents_opened : (found : FoundFiles) (stored : Base) → found.frames ≡ payloads stored → AreFormed stored
    → are_stored_rows (length found.objects) stored ≡ true → Represents found (base_opened found.objects stored)
represents_opened found stored spelled formed good =
    let objects = found.objects in
    let lives = is_live (plain_rows stored) in
    let same = sym (same_live (plain_rows stored) (base_opened objects stored) (opened_alike objects stored)) in
    record {
      stored = stored;
      spelled = spelled;
      formed = formed;
      good = good;
      rows = subst (λ live. AreRowsOf live objects stored (base_opened objects stored)) same
          (rows_are_opened lives objects stored good);
    }

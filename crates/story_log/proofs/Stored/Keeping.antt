-- Extents that are kept read the same in every image, and beside every write.
use Rattle.std.proofs.Common.{◌≡◌, refl, ap, sym, ◌∙◌, ℕ, ◌+◌, ◌-◌, ◌<◌, ◌≤◌, inl, inr, Bool, true, false, ◌&&◌, leb, ltb, List}
use Rattle.std.proofs.Common.{[], ◌∷◌, length, map, take, drop, get_or, arith, length-take, length-drop}
use Rattle.std.specs.List.{AllByRecursion}
use Rattle.std.proofs.lemmas.Bool.{and_parts, and_from, or_cases, or_from, leb-true, lt-leb, le-ltb}
use Rattle.std.proofs.lemmas.List.{get_or-take, get_or-drop, ext_get_or}
use Rattle.cc_names.specs.declared.rows.Extent.{Extent}
use Rattle.cc_names.specs.declared.rows.Stored.{Stored}
use Rattle.cc_names.specs.declared.rows.Stored.TheVariants.{Here, There}
use Rattle.cc_names.specs.declared.rows.Deed.{Deed}
use Rattle.cc_names.specs.declared.rows.Deed.TheVariants as deeds
use Rattle.disk_model.specs.Files.{File, stable, is_written, IsImage, IsTorn}
use Rattle.disk_model.specs.Devices.{written_to}
use Rattle.base_model.specs.Rows.{Base, size}
use Rattle.container_store.specs.Extents.{place_behind, are_apart, is_free, extent_at}
use Rattle.story_log.specs.Stored.Taken.{extents_in, extents_of}
use Rattle.story_log.specs.Stored.Founds.{bytes_at, AreOutputs, IsDeedOf, AreRowsOf}
use Rattle.story_log.specs.Stored.Kept.{extent_of_range, IsKept, OfLive, AreKept}
use Rattle.story_log.proofs.Stored.Alike.{same_size}

-- two files with the same bytes there
pub same_at : (e : Extent) (xs ys : List ℕ) → place_behind e ≤ length xs → place_behind e ≤ length ys
    → ((i : ℕ) → e.place ≤ i → i < place_behind e → get_or xs i 0 ≡ get_or ys i 0) → bytes_at xs e ≡ bytes_at ys e
same_at e xs ys hx hy same =
    let n = e.length in
    let p = e.place in
    let long : (zs : List ℕ) → place_behind e ≤ length zs → length (take n (drop p zs)) ≡ n =
    λ zs within. omega (arith, length-take n (drop p zs), length-drop p zs) in
    ext_get_or 0 (take n (drop p xs)) (take n (drop p ys)) (long xs hx ∙ sym (long ys hy)) (λ i h.
    let below : i < n = omega (arith, h, long xs hx) in
    get_or-take n (drop p xs) i 0 below ∙ get_or-drop p xs i 0 ∙ same (p + i) (omega arith) (omega arith)
    ∙ sym (get_or-drop p ys i 0) ∙ sym (get_or-take n (drop p ys) i 0 below))

-- no byte of it was written
sides : (e x : Extent) (i : ℕ) → are_apart e x ≡ true → e.place ≤ i → i < place_behind e
    → (leb x.place i && ltb i (place_behind x)) ≡ false
sides e x i apart from below = elim (or_cases (leb (place_behind e) x.place) (leb (place_behind x) e.place) apart) [
  | inl before ↦
      let le : place_behind e ≤ x.place = leb-true (place_behind e) x.place before in
      let not_yet : leb x.place i ≡ false = lt-leb x.place i (omega arith) in
      rw not_yet refl
  | inr after ↦
      let le : place_behind x ≤ e.place = leb-true (place_behind x) e.place after in
      let no_more : ltb i (place_behind x) ≡ false = le-ltb i (place_behind x) (omega arith) in
      both_false (leb x.place i) (ltb i (place_behind x)) no_more
]
  where
    both_false : (a b : Bool) → b ≡ false → (a && b) ≡ false
    both_false true b h = h
    both_false false b h = refl

pub unwritten : (e : Extent) (written : List (ℕ × ℕ)) (i : ℕ) → is_free (map extent_of_range written) e ≡ true → e.place ≤ i
    → i < place_behind e
    → is_written written i ≡ false
unwritten e [] i free from below = refl
unwritten e (range ∷ ranges) i free from below =
    let each = and_parts (are_apart e (extent_of_range range)) (is_free (map extent_of_range ranges) e) free in
    or_from (leb range.0 i && ltb i (range.0 + range.1)) (is_written ranges i)
    (sides e (extent_of_range range) i each.0 from below)
    (unwritten e ranges i each.1 from below)

module _ (file : File) (reads : file.least ≤ length file.bytes) (e : Extent) (kept : IsKept file e) where
  -- each image has its bytes
  pub in_image : (image : List ℕ) → IsImage file image → bytes_at image e ≡ bytes_at file.bytes e
  in_image image is =
      let within = kept.within in
      same_at e image file.bytes (omega (arith, within, is.no_shorter)) (omega (arith, within))
      (λ i from below. is.kept i (omega (arith, within)) (unwritten e file.written i kept.free from below))

  -- a write elsewhere leaves it
  module _ (place size : ℕ) (left : List ℕ) (apart : are_apart e (extent_at place size) ≡ true)
      (torn : IsTorn place size file.bytes left) where
    pub beside_write : bytes_at left e ≡ bytes_at file.bytes e
    beside_write =
        let within = kept.within in
        let at : (i : ℕ) → e.place ≤ i → i < place_behind e → get_or left i 0 ≡ get_or file.bytes i 0 = λ i from below.
        elim (or_cases (leb (place_behind e) place) (leb (place + size) e.place) apart) [
          | inl before ↦ let le : place_behind e ≤ place = leb-true (place_behind e) place before in
              torn.below i (omega (arith, within)) (omega arith)
          | inr after ↦ let le : place + size ≤ e.place = leb-true (place + size) e.place after in
              torn.above i (omega (arith, within)) (omega arith)
        ] in
        same_at e left file.bytes (omega (arith, within, torn.no_shorter)) (omega (arith, within)) at

    pub still_kept : IsKept (written_to file place size left) e
    still_kept = record {
      within = kept.within;
      free = and_from (are_apart e (extent_at place size)) (is_free (map extent_of_range file.written) e) apart kept.free;
    }

-- after a sync all is kept that lies in the file
pub kept_by_sync : (bytes : List ℕ) (e : Extent) → place_behind e ≤ length bytes → IsKept (stable bytes) e
kept_by_sync bytes e within = record { within = within; free = refl }

-- rows that are kept
outputs_in : (lives : Bool) (objects image : List ℕ) (stored : List Stored) (outputs : List (List ℕ))
    → (lives ≡ true → AllByRecursion (λ (e : Extent). bytes_at image e ≡ bytes_at objects e) (extents_in stored))
    → AreOutputs lives objects stored outputs → AreOutputs lives image stored outputs
outputs_in lives objects image [] [] same are = tt
outputs_in lives objects image [] (output ∷ outputs) same are = absurd are
outputs_in lives objects image (stored ∷ more) [] same are = absurd are
outputs_in lives objects image (Here bytes ∷ more) (output ∷ outputs) same are =
    (are.0, outputs_in lives objects image more outputs same are.1)
outputs_in lives objects image (There e ∷ more) (output ∷ outputs) same are = (
  λ live. let here = are.0 live in (here.0, (same live).0 ∙ here.1),
  outputs_in lives objects image more outputs (λ live. (same live).1) are.1,
)

deed_in : (lives : Bool) (objects image : List ℕ) (spelt deed : Deed)
    → (lives ≡ true → AllByRecursion (λ (e : Extent). bytes_at image e ≡ bytes_at objects e) (extents_of spelt))
    → IsDeedOf lives objects spelt deed → IsDeedOf lives image spelt deed
deed_in lives objects image (deeds.PublishAt view targets script entries stored) deed same is =
    (is.0, is.1, outputs_in lives objects image stored is.0 same is.2)
deed_in lives objects image spelt deed same is = is

-- files that have the same bytes at each live extent
pub rows_in : (lives : ℕ → Bool) (objects image : List ℕ) (stored b : Base)
    → OfLive (λ (e : Extent). bytes_at image e ≡ bytes_at objects e) lives stored
    → AreRowsOf lives objects stored b → AreRowsOf lives image stored b
rows_in lives objects image [] [] same are = tt
rows_in lives objects image [] (row ∷ older) same are = absurd are
rows_in lives objects image (spelt ∷ earlier) [] same are = absurd are
rows_in lives objects image (spelt ∷ earlier) (row ∷ older) same are =
    let number = same_size lives objects earlier older are.1 in (
      record {
        tag = are.0.tag;
        moment = are.0.moment;
        deed = deed_in (lives (size older)) objects image spelt.deed row.deed (λ live. same.0 (ap lives number ∙ live))
            are.0.deed;
      },
      rows_in lives objects image earlier older same.1 are.1,
    )

each_weaker : (P Q : Extent → Type 0) (es : List Extent) → ((e : Extent) → P e → Q e) → AllByRecursion P es → AllByRecursion Q es
each_weaker P Q [] f all = tt
each_weaker P Q (e ∷ es) f all = (f e all.0, each_weaker P Q es f all.1)

pub live_weaker : (P Q : Extent → Type 0) (lives : ℕ → Bool) (stored : Base) → ((e : Extent) → P e → Q e) → OfLive P lives stored
    → OfLive Q lives stored
live_weaker P Q lives [] f all = tt
live_weaker P Q lives (row ∷ older) f all = (
  λ live. each_weaker P Q (extents_of row.deed) f (all.0 live),
  live_weaker P Q lives older f all.1,
)

-- each image has the bytes of the live objects
pub rows_in_image : (lives : ℕ → Bool) (file : File) → file.least ≤ length file.bytes → (image : List ℕ) → IsImage file image
    → (stored b : Base)
    → AreKept lives file stored → AreRowsOf lives file.bytes stored b → AreRowsOf lives image stored b
rows_in_image lives file reads image is stored b kept are =
    rows_in lives file.bytes image stored b
    (live_weaker (IsKept file) (λ (e : Extent). bytes_at image e ≡ bytes_at file.bytes e) lives stored
    (λ e here. in_image file reads e here image is) kept) are

-- and so does the file after a write that lies apart from them
pub rows_beside : (lives : ℕ → Bool) (file : File) → file.least ≤ length file.bytes → (place size : ℕ) (left : List ℕ)
    → IsTorn place size file.bytes left → (stored b : Base)
    → OfLive (λ (e : Extent). IsKept file e × (are_apart e (extent_at place size) ≡ true)) lives stored
    → AreRowsOf lives file.bytes stored b → AreRowsOf lives left stored b
rows_beside lives file reads place size left torn stored b both are =
    rows_in lives file.bytes left stored b
    (live_weaker (λ (e : Extent). IsKept file e × (are_apart e (extent_at place size) ≡ true))
    (λ (e : Extent). bytes_at left e ≡ bytes_at file.bytes e) lives stored
    (λ e here. beside_write file reads e here.0 place size left here.1 torn) both) are

-- An element is named in catalogs of the directory in which it was made, and in no other's.
use Rattle.std.proofs.Common.{◌≡◌, refl, subst, ℕ, Bool, true, false, not, ◌==◌, Some, List, [], ◌∷◌}
use Rattle.std.specs.Cmp.Lexicographic.{slice_cmp}
use Rattle.std.specs.Ordering.{nat_cmp}
use Rattle.cc_names.specs.Formed.{Plain}
use Rattle.cc_names.specs.declared.rows.Deed.{Deed}
use Rattle.cc_names.specs.declared.rows.Deed.TheVariants as deeds
use Rattle.cc_names.specs.declared.rows.Tag.{Tag}
use Rattle.cc_names.proofs.Common.{same_number}
use Rattle.base_model.specs.Rows.{Base, size}
use Rattle.base_model.specs.Catalogs.{element_named, edit_of, catalog_source, made_or_older, catalog_of, own_of}
use Rattle.base_model.specs.Closures.{is_version_of}
use Rattle.base_model.specs.Conditions.{exists, has_out, is_branch_type, has_branch}
use Rattle.base_model.specs.Fits.{deed_fits, is_base}
use Rattle.base_model.proofs.Owned.{row_fits, rows_below, third_of}
use Rattle.base_model.specs.Directories.{directory_of}
use Rattle.base_model.proofs.NewVersions.{branch_makes, checkin_makes}
use Rattle.base_model.proofs.Values.{AllValues, all_as, all_found}
use Rattle.base_model.proofs.NamedEdits.{MadeIn, OfItsVersion, made_stays, its_version_stays, of_directory, after_edit}
use Rattle.base_model.proofs.NamedEdits.{row_keeps, row_adds}

record AllNamed (b : Base) : Type 0 where
  versions : (r : ℕ) → AllValues (OfItsVersion b r) (catalog_of b r)
  checkouts : (v : List ℕ) (d : ℕ) → AllValues (MadeIn b d) (own_of b v d)

-- the catalog of a version that the newest row made
newest_catalog : (tag : Tag) (moment : ℕ) (deed : Deed) (older : Base) → is_base older ≡ true → deed_fits older deed ≡ true
    → AllNamed older →
    AllValues (OfItsVersion (record { tag = tag; moment = moment; deed = deed } ∷ older) (size older))
    (made_or_older true (catalog_source deed) (catalog_of older) (own_of older) (size older))
newest_catalog tag moment (deeds.Branch v f origin name how) older base fit h =
    let row : Plain = record { tag = tag; moment = moment; deed = deeds.Branch v f origin name how } in
    let version = third_of (exists older v) (not (has_out older v f)) (is_version_of older f origin) (is_branch_type older name)
    (not (has_branch older f name)) fit in
    all_as (MadeIn older f) (OfItsVersion (row ∷ older) (size older)) (catalog_of older origin)
    (λ e made. record {
      directory = f;
      made = made_stays row older f e made;
      version = branch_makes tag moment v f origin name how older;
    })
    (of_directory older f origin (catalog_of older origin) version (h.versions origin))
newest_catalog tag moment (deeds.Checkin v f) older base fit h =
    let row : Plain = record { tag = tag; moment = moment; deed = deeds.Checkin v f } in
    all_as (MadeIn older f) (OfItsVersion (row ∷ older) (size older)) (own_of older v f)
    (λ e made. record {
      directory = f;
      made = made_stays row older f e made;
      version = checkin_makes tag moment v f older base fit;
    }) (h.checkouts v f)
newest_catalog tag moment deed older base fit h = tt

all_named : (b : Base) → is_base b ≡ true → AllNamed b
all_named [] base = record { versions = λ r. tt; checkouts = λ v d. tt }
all_named (row ∷ older) base =
    let before = all_named older (rows_below row older base) in
    record {
      versions = λ r. of_row r (size older == r) refl before;
      checkouts = λ v d. after_edit row older d (edit_of v d (size older) row.deed) (own_of older v d)
          (row_keeps older v d row.deed (row_fits row older base)) (row_adds row.tag row.moment row.deed older v d)
          before.versions (before.checkouts v d);
    }
  where
    of_row : (r : ℕ) (t : Bool) → (size older == r) ≡ t → AllNamed older
        → AllValues (OfItsVersion (row ∷ older) r) (made_or_older t (catalog_source row.deed) (catalog_of older) (own_of older) r)
    of_row r false e before = all_as (OfItsVersion older r) (OfItsVersion (row ∷ older) r) (catalog_of older r)
        (λ x h. its_version_stays row older r x h) (before.versions r)
    of_row r true e before =
        subst (λ k. AllValues (OfItsVersion (row ∷ older) k) (made_or_older true (catalog_source row.deed) (catalog_of older)
        (own_of older) k)) (same_number (size older) r e)
        (newest_catalog row.tag row.moment row.deed older (rows_below row older base) (row_fits row older base) before)

-- The laws.
pub named_by_version : (b : Base) (d r : ℕ) (name : List ℕ) (e : ℕ) → is_base b ≡ true → is_version_of b d r ≡ true
    → element_named name (catalog_of b r) ≡ Some e → directory_of b e ≡ Some d
named_by_version b d r name e base version is =
    all_found (MadeIn b d) (slice_cmp nat_cmp) name (catalog_of b r) e
    (of_directory b d r (catalog_of b r) version ((all_named b base).versions r)) is

pub named_by_checkout : (b : Base) (v : List ℕ) (d : ℕ) (name : List ℕ) (e : ℕ) → is_base b ≡ true
    → element_named name (own_of b v d) ≡ Some e → directory_of b e ≡ Some d
named_by_checkout b v d name e base is = all_found (MadeIn b d) (slice_cmp nat_cmp) name (own_of b v d) e
    ((all_named b base).checkouts v d) is

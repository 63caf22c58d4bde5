-- Each name in a catalog of a directory was given there by a row.
use Rattle.std.proofs.Common.{◌≡◌, ℕ, Bool, true, false, not, cond, ◌&&◌, ◌==◌, List, [], ◌∷◌, Option, Some, None, refl}
use Rattle.std.proofs.Common.{ap, sym, subst, ◌∙◌, bytes_eq}
use Rattle.std.specs.Prelude.{is_some}
use Rattle.std.proofs.lemmas.Bool.{or_left, or_right}
use Rattle.cc_names.specs.Formed.{Plain}
use Rattle.cc_names.specs.declared.rows.Deed.{Deed}
use Rattle.cc_names.specs.declared.rows.Deed.TheVariants as deeds
use Rattle.cc_names.specs.declared.rows.Tag.{Tag}
use Rattle.cc_names.proofs.Common.{same_number}
use Rattle.base_model.specs.Catalogs.{Catalog, Edit, Same, BeginsEmpty, BeginsAs, Adds, Removes, Renames, catalog_of}
use Rattle.base_model.specs.Catalogs.{catalog_source, edit_of, edit_where, catalog_after, first_edit, is_out, made_or_older}
use Rattle.base_model.specs.Catalogs.{element_named, own_of, with_new_name, without_name}
use Rattle.base_model.specs.Closures.{is_version_of}
use Rattle.base_model.specs.Conditions.{exists, has_branch, has_out, is_branch_type}
use Rattle.base_model.specs.Fits.{deed_fits, is_base}
use Rattle.base_model.specs.Rows.{Base, size}
use Rattle.base_model.proofs.NamedEdits.{Keeps, one_element, row_keeps}
use Rattle.base_model.proofs.NewVersions.{branch_makes, checkin_makes}
use Rattle.base_model.proofs.Owned.{row_fits, rows_below, third_of}
use Rattle.base_model.proofs.VersionsStay.{version_stays}
use Rattle.base_rows.specs.Giving.{gives_in}
use Rattle.view_lookup.specs.GivenNames.{is_name, name_given, was_named}
use Rattle.view_lookup.proofs.EntryEdits.{found_with, found_without}

-- a row gave the name in the directory of which a row made a version
record OfVersion (b : Base) (r : ℕ) (name : List ℕ) : Type 0 where
  directory : ℕ
  version : is_version_of b directory r ≡ true
  given : was_named directory name b ≡ true

record AllGiven (b : Base) : Type 0 where
  versions : (r : ℕ) (name : List ℕ) → is_some (element_named name (catalog_of b r)) ≡ true → OfVersion b r name
  checkouts : (v : List ℕ) (d : ℕ) (name : List ℕ) → is_some (element_named name (own_of b v d)) ≡ true
      → was_named d name b ≡ true

stays : (row : Plain) (older : Base) (d : ℕ) (name : List ℕ) → was_named d name older ≡ true
    → was_named d name (row ∷ older) ≡ true
stays row older d name h = or_right (gives_in d row.deed && is_name name (name_given row.deed)) (was_named d name older) h

-- whether an edit gives a name
abbrev gives : List ℕ → Edit → Bool
gives name (Adds other e) = bytes_eq name other
gives name (Renames from_name to_name) = bytes_eq name to_name
gives name edit = false

if_found : (P : Type 0) (t : Bool) (e : ℕ) (found : Option ℕ) → is_some (cond t (Some e) found) ≡ true → (t ≡ true → P)
    → (is_some found ≡ true → P) → P
if_found P true e found is here before = here refl
if_found P false e found is here before = before is

if_left : (t : Bool) (found : Option ℕ) → is_some (cond (not t) found None) ≡ true → is_some found ≡ true
if_left true found is = absurd (cc)
if_left false found is = is

-- a name after an edit was there before, in the catalog of the version as which the checkout began, or is given by the edit
edited_given : (P : Type 0) (name : List ℕ) (edit : Edit) (of_version : ℕ → Catalog) (own : Catalog)
    → is_some (element_named name (catalog_after edit of_version own)) ≡ true →
    (is_some (element_named name own) ≡ true → P) → ((origin : ℕ) → edit ≡ BeginsAs origin
    → is_some (element_named name (of_version origin)) ≡ true → P) → (gives name edit ≡ true → P) → P
edited_given P name Same of_version own is before begun given = before is
edited_given P name BeginsEmpty of_version own is before begun given = absurd (cc)
edited_given P name (BeginsAs origin) of_version own is before begun given = begun origin refl is
edited_given P name (Adds other e) of_version own is before begun given =
    if_found P (bytes_eq name other) e (element_named name own) (sym (ap is_some (found_with name other e own)) ∙ is) given before
edited_given P name (Removes other) of_version own is before begun given =
    before (if_left (bytes_eq name other) (element_named name own) (sym (ap is_some (found_without name other own)) ∙ is))
edited_given P name (Renames from_name to_name) of_version own is before begun given = by (element_named from_name own) is
  where
    left : is_some (element_named name (without_name from_name own)) ≡ true → P
    left is = before (if_left (bytes_eq name from_name) (element_named name own)
        (sym (ap is_some (found_without name from_name own)) ∙ is))

    by : (found : Option ℕ) → is_some (element_named name (with_new_name to_name found (without_name from_name own))) ≡ true → P
    by None is = left is
    by (Some e) is = if_found P (bytes_eq name to_name) e (element_named name (without_name from_name own))
        (sym (ap is_some (found_with name to_name e (without_name from_name own))) ∙ is) given left

-- a name that the edit of a row gives is given by the row
given_by_row : (v : List ℕ) (d n : ℕ) (name : List ℕ) (deed : Deed) → gives name (edit_of v d n deed) ≡ true
    → (gives_in d deed && is_name name (name_given deed)) ≡ true
given_by_row v d n name (deeds.Mkelem w f other kind out) h = by (bytes_eq w v && (n == d) && out) (bytes_eq w v) (f == d) h
  where
    by : (began own at : Bool) → gives name (first_edit began BeginsEmpty (edit_where (own && at) (Adds other n))) ≡ true
        → (at && bytes_eq name other) ≡ true
    by true own at h = absurd (cc)
    by false true true h = h
    by false true false h = absurd (cc)
    by false false at h = absurd (cc)
given_by_row v d n name (deeds.Mv w f from_name to_name) h = by (bytes_eq w v) (f == d) h
  where
    by : (own at : Bool) → gives name (edit_where (own && at) (Renames from_name to_name)) ≡ true
        → (at && bytes_eq name to_name) ≡ true
    by true true h = h
    by true false h = absurd (cc)
    by false at h = absurd (cc)
given_by_row v d n name (deeds.Checkout w e origin reserved) h = by (bytes_eq w v && (e == d)) h
  where
    by : (own : Bool) → gives name (edit_where own (BeginsAs origin)) ≡ true
        → (gives_in d (deeds.Checkout w e origin reserved) && false) ≡ true
    by true h = absurd (cc)
    by false h = absurd (cc)
given_by_row v d n name (deeds.Branch w e origin other how) h = by (bytes_eq w v && (e == d) && is_out how) h
  where
    by : (own : Bool) → gives name (edit_where own (BeginsAs origin)) ≡ true
        → (gives_in d (deeds.Branch w e origin other how) && false) ≡ true
    by true h = absurd (cc)
    by false h = absurd (cc)
given_by_row v d n name (deeds.Rmname w f other) h = by (bytes_eq w v && (f == d)) h
  where
    by : (own : Bool) → gives name (edit_where own (Removes other)) ≡ true → (gives_in d (deeds.Rmname w f other) && false) ≡ true
    by true h = absurd (cc)
    by false h = absurd (cc)
given_by_row v d n name deed h = absurd (cc)

newest_given : (tag : Tag) (moment : ℕ) (deed : Deed) (older : Base) (name : List ℕ) → is_base older ≡ true
    → deed_fits older deed ≡ true → AllGiven older →
    is_some (element_named name (made_or_older true (catalog_source deed) (catalog_of older) (own_of older) (size older))) ≡ true
    → OfVersion (record { tag = tag; moment = moment; deed = deed } ∷ older) (size older) name
newest_given tag moment (deeds.Branch v f origin other how) older name base fit h is =
    let row : Plain = record { tag = tag; moment = moment; deed = deeds.Branch v f origin other how } in
    let version = third_of (exists older v) (not (has_out older v f)) (is_version_of older f origin) (is_branch_type older other)
    (not (has_branch older f other)) fit in
    let before = h.versions origin name is in
    let same = one_element older before.directory f origin before.version version in
    record {
      directory = f;
      version = branch_makes tag moment v f origin other how older;
      given = stays row older f name (subst (λ d. was_named d name older ≡ true) same before.given);
    }
newest_given tag moment (deeds.Checkin v f) older name base fit h is =
    let row : Plain = record { tag = tag; moment = moment; deed = deeds.Checkin v f } in
    record {
      directory = f;
      version = checkin_makes tag moment v f older base fit;
      given = stays row older f name (h.checkouts v f name is);
    }
newest_given tag moment deed older name base fit h is = absurd (cc)

all_given : (b : Base) → is_base b ≡ true → AllGiven b
all_given [] base = record { versions = λ r name is. absurd (cc); checkouts = λ v d name is. absurd (cc) }
all_given (row ∷ older) base =
    let before = all_given older (rows_below row older base) in
    record {
      versions = λ r name is. of_row r name (size older == r) refl is before;
      checkouts = λ v d name is.
          edited_given (was_named d name (row ∷ older) ≡ true) name (edit_of v d (size older) row.deed) (catalog_of older)
          (own_of older v d) is
          (λ own. stays row older d name (before.checkouts v d name own))
          (λ origin begins at.
          let of_origin = before.versions origin name at in
          let version : is_version_of older d origin ≡ true = subst (Keeps older d) begins
          (row_keeps older v d row.deed (row_fits row older base)) in
          let same = one_element older of_origin.directory d origin of_origin.version version in
          stays row older d name (subst (λ k. was_named k name older ≡ true) same of_origin.given))
          (λ gives_it. or_left (gives_in d row.deed && is_name name (name_given row.deed)) (was_named d name older)
          (given_by_row v d (size older) name row.deed gives_it));
    }
  where
    of_row : (r : ℕ) (name : List ℕ) (t : Bool) → (size older == r) ≡ t
        → is_some (element_named name (made_or_older t (catalog_source row.deed) (catalog_of older) (own_of older) r)) ≡ true
        → AllGiven older → OfVersion (row ∷ older) r name
    of_row r name false e is before =
        let known = before.versions r name is in
        record {
          directory = known.directory;
          version = version_stays row older known.directory r known.version;
          given = stays row older known.directory name known.given;
        }
    of_row r name true e is before =
        let same : size older ≡ r = same_number (size older) r e in
        subst (λ n. OfVersion (row ∷ older) n name) same
        (newest_given row.tag row.moment row.deed older name (rows_below row older base) (row_fits row older base) before
        (subst (λ n. is_some (element_named name (made_or_older true (catalog_source row.deed) (catalog_of older) (own_of older)
        n)) ≡ true) (sym same) is))

-- each name of a directory's version was given in the directory
pub version_given : (b : Base) (d r : ℕ) (name : List ℕ) → is_base b ≡ true → is_version_of b d r ≡ true
    → is_some (element_named name (catalog_of b r)) ≡ true → was_named d name b ≡ true
version_given b d r name base version is =
    let known = (all_given b base).versions r name is in
    subst (λ k. was_named k name b ≡ true) (one_element b known.directory d r known.version version) known.given

-- so was each name of a view's checkout of it
pub checkout_given : (b : Base) (v : List ℕ) (d : ℕ) (name : List ℕ) → is_base b ≡ true
    → is_some (element_named name (own_of b v d)) ≡ true → was_named d name b ≡ true
checkout_given b v d name base is = (all_given b base).checkouts v d name is

-- An edit of a checkout's catalog names nothing but what was made in its directory.
use Rattle.std.proofs.Common.{◌≡◌, refl, ap, sym, subst, ◌∙◌, ℕ, Bool, true, false, not, ◌&&◌, ◌==◌, Option, Some, None, List}
use Rattle.std.proofs.Common.{◌∷◌}
use Rattle.std.specs.Bool.{⊤}
use Rattle.std.specs.Cmp.Lexicographic.{slice_cmp}
use Rattle.std.specs.Ordering.{nat_cmp}
use Rattle.std.specs.Prelude.{bytes_eq}
use Rattle.cc_names.specs.Formed.{Plain}
use Rattle.cc_names.specs.declared.changes.VersionId.{VersionId}
use Rattle.cc_names.specs.declared.rows.Deed.{Deed}
use Rattle.cc_names.specs.declared.rows.Deed.TheVariants as deeds
use Rattle.cc_names.specs.declared.rows.Kind.{Kind}
use Rattle.cc_names.specs.declared.rows.Tag.{Tag}
use Rattle.cc_names.proofs.Common.{same_number, and_first, and_second}
use Rattle.base_model.specs.Rows.{Base, size, row_at, deed_of, deed_at}
use Rattle.base_model.specs.Catalogs.{Catalog, Edit, Same, BeginsEmpty, BeginsAs, Adds, Removes, Renames, element_named}
use Rattle.base_model.specs.Catalogs.{without_name, with_new_name, catalog_after, edit_of, edit_where, first_edit, is_out}
use Rattle.base_model.specs.Catalogs.{catalog_of}
use Rattle.base_model.specs.Checkouts.{is_latest}
use Rattle.base_model.specs.Closures.{is_version_of}
use Rattle.base_model.specs.Conditions.{exists, has_out, is_branch_type, has_branch}
use Rattle.base_model.specs.Fits.{deed_fits, may_reserve}
use Rattle.base_model.proofs.Owned.{third_of, same_is_same}
use Rattle.base_model.proofs.Stay.{row_stays}
use Rattle.base_model.proofs.VersionsStay.{of_element, version_stays}
use Rattle.base_model.specs.Directories.{directory_of, directory_of_deed}
use Rattle.base_model.proofs.Deeds.{deed_below}
use Rattle.base_model.proofs.Values.{AllValues, all_as, all_put, all_where, all_found}

-- an element was made in the directory
abbrev pub MadeIn : Base → ℕ → ℕ → Type 0
MadeIn b d e = directory_of b e ≡ Some d

-- an element was made in the directory of which a row is a version
pub record OfItsVersion (b : Base) (r e : ℕ) : Type 0 where
  pub directory : ℕ
  pub made : MadeIn b directory e
  pub version : is_version_of b directory r ≡ true

-- a version is one of one element
pub one_element : (b : Base) (d e r : ℕ) → is_version_of b d r ≡ true → is_version_of b e r ≡ true → d ≡ e
one_element b d e r h g =
    let p = of_element b d r h in
    let q = of_element b e r g in
    let same : p.0 ≡ q.0 = some_version_id (sym p.1 ∙ q.1) in
    sym p.2 ∙ ap (λ (x : VersionId). x.element) same ∙ q.2
  where
    some_version_id : {x y : VersionId} → Some x ≡ Some y → x ≡ y
    some_version_id h = cc

pub made_stays : (row : Plain) (b : Base) (d e : ℕ) → MadeIn b d e → MadeIn (row ∷ b) d e
made_stays row b d e h = by (deed_at b e) refl h
  where
    by : (o : Option Deed) → deed_at b e ≡ o → directory_of_deed o ≡ Some d → MadeIn (row ∷ b) d e
    by None is h = absurd (cc)
    by (Some deed) is h = ap (λ o. directory_of_deed (deed_of o)) (row_stays row b e (deed_below b e deed is))
        ∙ ap directory_of_deed is ∙ h

pub its_version_stays : (row : Plain) (b : Base) (r e : ℕ) → OfItsVersion b r e → OfItsVersion (row ∷ b) r e
its_version_stays row b r e h = record {
  directory = h.directory;
  made = made_stays row b h.directory e h.made;
  version = version_stays row b h.directory r h.version;
}

-- all names of a catalog of a version of this directory
pub of_directory : (b : Base) (d r : ℕ) (catalog : Catalog) → is_version_of b d r ≡ true → AllValues (OfItsVersion b r) catalog
    → AllValues (MadeIn b d) catalog
of_directory b d r catalog is h = all_as (OfItsVersion b r) (MadeIn b d) catalog
    (λ e x. subst (λ k. MadeIn b k e) (one_element b x.directory d r x.version is) x.made) h

-- an edit of a checkout of directory d that names only what was made there
abbrev pub Keeps : Base → ℕ → Edit → Type 0
Keeps older d (BeginsAs origin) = is_version_of older d origin ≡ true
Keeps older d edit = ⊤

abbrev pub AddsOwn : Base → ℕ → Edit → Type 0
AddsOwn b d (Adds name e) = MadeIn b d e
AddsOwn b d edit = ⊤

renamed : (b : Base) (d : ℕ) (name : List ℕ) (o : Option ℕ) (catalog : Catalog) → ((e : ℕ) → o ≡ Some e → MadeIn b d e)
    → AllValues (MadeIn b d) catalog → AllValues (MadeIn b d) (with_new_name name o catalog)
renamed b d name None catalog is h = h
renamed b d name (Some e) catalog is h = all_put (MadeIn b d) (slice_cmp nat_cmp) name e catalog (is e refl) h

without : (b : Base) (d : ℕ) (name : List ℕ) (catalog : Catalog) → AllValues (MadeIn b d) catalog
    → AllValues (MadeIn b d) (without_name name catalog)
without b d name catalog h = all_where (MadeIn b d) (slice_cmp nat_cmp) (λ key. not (bytes_eq key name)) catalog h

pub after_edit : (row : Plain) (older : Base) (d : ℕ) (edit : Edit) (own : Catalog) → Keeps older d edit
    → AddsOwn (row ∷ older) d edit → ((r : ℕ) → AllValues (OfItsVersion older r) (catalog_of older r))
    → AllValues (MadeIn older d) own →
    AllValues (MadeIn (row ∷ older) d) (catalog_after edit (catalog_of older) own)
after_edit row older d edit own keeps adds h g = by edit keeps adds (all_as (MadeIn older d) (MadeIn (row ∷ older) d) own
    (λ e made. made_stays row older d e made) g)
  where
    by : (edit : Edit) → Keeps older d edit → AddsOwn (row ∷ older) d edit → AllValues (MadeIn (row ∷ older) d) own
        → AllValues (MadeIn (row ∷ older) d) (catalog_after edit (catalog_of older) own)
    by Same keeps adds stays = stays
    by BeginsEmpty keeps adds stays = tt
    by (BeginsAs origin) keeps adds stays =
        all_as (MadeIn older d) (MadeIn (row ∷ older) d) (catalog_of older origin) (λ e made. made_stays row older d e made)
        (of_directory older d origin (catalog_of older origin) keeps (h origin))
    by (Adds name e) keeps adds stays = all_put (MadeIn (row ∷ older) d) (slice_cmp nat_cmp) name e own adds stays
    by (Removes name) keeps adds stays = without (row ∷ older) d name own stays
    by (Renames from_name to_name) keeps adds stays =
        renamed (row ∷ older) d to_name (element_named from_name own) (without_name from_name own)
        (λ e is. all_found (MadeIn (row ∷ older) d) (slice_cmp nat_cmp) from_name own e stays is)
        (without (row ∷ older) d from_name own stays)

keeps_where : (older : Base) (d : ℕ) (test : Bool) (edit : Edit) → (test ≡ true → Keeps older d edit)
    → Keeps older d (edit_where test edit)
keeps_where older d true edit h = h refl
keeps_where older d false edit h = tt

keeps_first : (older : Base) (d : ℕ) (test : Bool) (edit : Edit) → Keeps older d edit
    → Keeps older d (first_edit test BeginsEmpty edit)
keeps_first older d true edit h = tt
keeps_first older d false edit h = h

-- where the checkout of directory d begins as a version, that is one of d
begins : (older : Base) (d e origin : ℕ) (test : Bool) → is_version_of older e origin ≡ true → (test && (e == d)) ≡ true
    → is_version_of older d origin ≡ true
begins older d e origin test is h = subst (λ k. is_version_of older k origin ≡ true)
    (same_number e d (and_second test (e == d) h)) is

pub row_keeps : (older : Base) (v : List ℕ) (d : ℕ) (deed : Deed) → deed_fits older deed ≡ true
    → Keeps older d (edit_of v d (size older) deed)
row_keeps older v d (deeds.Mkelem w f name kind how) fit = keeps_first older d (bytes_eq w v && (size older == d) && how)
    (edit_where (bytes_eq w v && (f == d)) (Adds name (size older))) (keeps_where older d (bytes_eq w v && (f == d))
    (Adds name (size older)) (λ e. tt))
row_keeps older v d (deeds.Checkout w e origin reserved) fit =
    keeps_where older d (bytes_eq w v && (e == d)) (BeginsAs origin)
    (begins older d e origin (bytes_eq w v) (third_of (exists older w) (not (has_out older w e)) (is_version_of older e origin)
    (is_latest older origin) (may_reserve older origin reserved) fit))
row_keeps older v d (deeds.Branch w e origin name how) fit =
    keeps_where older d (bytes_eq w v && (e == d) && is_out how) (BeginsAs origin)
    (λ h. begins older d e origin (bytes_eq w v) (third_of (exists older w) (not (has_out older w e))
    (is_version_of older e origin) (is_branch_type older name) (not (has_branch older e name)) fit)
    (and_first (bytes_eq w v && (e == d)) (is_out how) h))
row_keeps older v d (deeds.Rmname w f name) fit = keeps_where older d (bytes_eq w v && (f == d)) (Removes name) (λ e. tt)
row_keeps older v d (deeds.Mv w f from_name to_name) fit = keeps_where older d (bytes_eq w v && (f == d))
    (Renames from_name to_name) (λ e. tt)
row_keeps older v d deed fit = tt

adds_where : (b : Base) (d : ℕ) (test : Bool) (edit : Edit) → (test ≡ true → AddsOwn b d edit)
    → AddsOwn b d (edit_where test edit)
adds_where b d true edit h = h refl
adds_where b d false edit h = tt

adds_first : (b : Base) (d : ℕ) (test : Bool) (edit : Edit) → AddsOwn b d edit → AddsOwn b d (first_edit test BeginsEmpty edit)
adds_first b d true edit h = tt
adds_first b d false edit h = h

-- a new element is made in its directory
new_made : (tag : Tag) (moment : ℕ) (w : List ℕ) (f : ℕ) (name : List ℕ) (kind : Kind) (how : Bool) (older : Base)
    → MadeIn (record { tag = tag; moment = moment; deed = deeds.Mkelem w f name kind how } ∷ older) f (size older)
new_made tag moment w f name kind how older =
    ap (λ t. directory_of_deed (deed_of (elim t as (λ x. Option Plain) [
      | true ↦
          Some (record { tag = tag; moment = moment; deed = deeds.Mkelem w f name kind how })
      | false ↦
          row_at older (size older)
    ]))) (same_is_same (size older))

pub row_adds : (tag : Tag) (moment : ℕ) (deed : Deed) (older : Base) (v : List ℕ) (d : ℕ)
    → AddsOwn (record { tag = tag; moment = moment; deed = deed } ∷ older) d (edit_of v d (size older) deed)
row_adds tag moment (deeds.Mkelem w f name kind how) older v d =
    let b = record { tag = tag; moment = moment; deed = deeds.Mkelem w f name kind how } ∷ older in
    adds_first b d (bytes_eq w v && (size older == d) && how) (edit_where (bytes_eq w v && (f == d)) (Adds name (size older)))
    (adds_where b d (bytes_eq w v && (f == d)) (Adds name (size older))
    (λ h. subst (λ k. MadeIn b k (size older)) (same_number f d (and_second (bytes_eq w v) (f == d) h))
    (new_made tag moment w f name kind how older)))
row_adds tag moment (deeds.Checkout w e origin reserved) older v d = adds_where
    (record { tag = tag; moment = moment; deed = deeds.Checkout w e origin reserved } ∷ older) d (bytes_eq w v && (e == d))
    (BeginsAs origin) (λ h. tt)
row_adds tag moment (deeds.Branch w e origin name how) older v d = adds_where
    (record { tag = tag; moment = moment; deed = deeds.Branch w e origin name how } ∷ older) d
    (bytes_eq w v && (e == d) && is_out how) (BeginsAs origin) (λ h. tt)
row_adds tag moment (deeds.Rmname w f name) older v d = adds_where (record {
  tag = tag;
  moment = moment;
  deed = deeds.Rmname w f name;
} ∷ older) d (bytes_eq w v && (f == d)) (Removes name) (λ h. tt)
row_adds tag moment (deeds.Mv w f from_name to_name) older v d = adds_where
    (record { tag = tag; moment = moment; deed = deeds.Mv w f from_name to_name } ∷ older) d (bytes_eq w v && (f == d))
    (Renames from_name to_name) (λ h. tt)
row_adds tag moment deed older v d = tt

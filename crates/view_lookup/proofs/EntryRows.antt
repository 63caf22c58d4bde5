-- A name in a catalog, by the row that made the catalog of a version, and by the newest row that affects it in that of a
-- checkout.
use Rattle.std.proofs.Common.{◌≡◌, ℕ, suc, ◌<◌, ◌≤◌, ◌==◌, Bool, true, false, ◌||◌, Option, Some, None, IfSome, List, [], ◌∷◌}
use Rattle.std.proofs.Common.{refl, ap, sym, subst, ◌∙◌, arith}
use Rattle.std.proofs.lemmas.Bool.Decides.{Decides-eqb}
use Rattle.std.proofs.lemmas.Bool.{or_parts}
use Rattle.cc_names.specs.Formed.{Plain}
use Rattle.cc_names.specs.Last.{Sets, only_if, value_after}
use Rattle.cc_names.specs.declared.rows.Deed.{Deed}
use Rattle.cc_names.specs.declared.rows.Deed.TheVariants as deeds
use Rattle.cc_names.specs.declared.rows.Out.{Out}
use Rattle.cc_names.proofs.Common.{same_inside}
use Rattle.base_model.specs.Catalogs.{Catalog, CatalogSource, Empty, OfVersion, OfCheckout, Edit, Same, catalog_source}
use Rattle.base_model.specs.Catalogs.{made_or_older, element_named, catalog_after, edit_of, catalog_of, own_of}
use Rattle.base_model.specs.Rows.{Base, size, first_rows, row_at, deed_of, deed_at}
use Rattle.base_model.proofs.Deeds.{deed_below}
use Rattle.base_model.proofs.Stay.{all_rows, first_rows_stay}
use Rattle.base_model.proofs.VersionRows.{newest_deed, deed_stays}
use Rattle.base_rows.specs.Changed.{begins, changes}
use Rattle.base_rows.specs.Entries.{entry_effect}
use Rattle.base_rows.specs.Lifetimes.{or_else}
use Rattle.base_rows.specs.LookUps.{last_of}
use Rattle.base_rows.proofs.SpecRows.{weaker}
use Rattle.view_lookup.proofs.EntryEdits.{left_alone}

-- the edit of a row, where deed_stays is one
abbrev pub edit_by : List ℕ → ℕ → ℕ → Option Deed → Edit
edit_by v d n None = Same
edit_by v d n (Some deed) = edit_of v d n deed

abbrev pub edit_at : Base → List ℕ → ℕ → ℕ → Edit
edit_at b v d n = edit_by v d n (deed_at b n)

-- a name in the catalog of a view's checkout of a directory as a row leaves it
abbrev pub entry_at : Base → List ℕ → ℕ → List ℕ → ℕ → Option ℕ
entry_at b v d name n = element_named name (catalog_after (edit_at b v d n) (catalog_of (first_rows n b))
    (own_of (first_rows n b) v d))

-- the same, where deed_stays is a row
abbrev pub entry_by : Base → List ℕ → ℕ → List ℕ → Option ℕ → Option ℕ
entry_by b v d name None = None
entry_by b v d name (Some n) = entry_at b v d name n

-- the rows below the newest one
pub below_newest : (row : Plain) (older : Base) → first_rows (size older) (row ∷ older) ≡ older
below_newest row older = first_rows_stay row older (size older) (omega arith) ∙ all_rows older (size older) (omega arith)

entry_here : (v : List ℕ) (d : ℕ) (name : List ℕ) (row : Plain) (older : Base)
    → entry_at (row ∷ older) v d name (size older) ≡ element_named name
    (catalog_after (edit_of v d (size older) row.deed) (catalog_of older) (own_of older v d))
entry_here v d name row older =
    ap (λ deed. element_named name (catalog_after (edit_by v d (size older) deed)
    (catalog_of (first_rows (size older) (row ∷ older))) (own_of (first_rows (size older) (row ∷ older)) v d)))
    (newest_deed row older)
    ∙ ap (λ (b : Base). element_named name (catalog_after (edit_of v d (size older) row.deed) (catalog_of b) (own_of b v d)))
    (below_newest row older)

entry_there : (v : List ℕ) (d : ℕ) (name : List ℕ) (row : Plain) (older : Base) (n : Option ℕ) → IfSome n (λ m. m < size older)
    → entry_by older v d name n ≡ entry_by (row ∷ older) v d name n
entry_there v d name row older None below = refl
entry_there v d name row older (Some n) below =
    ap (λ deed. element_named name (catalog_after (edit_by v d n deed) (catalog_of (first_rows n older))
    (own_of (first_rows n older) v d))) (sym (deed_stays row older n below))
    ∙ ap (λ (b : Base). element_named name (catalog_after (edit_at (row ∷ older) v d n) (catalog_of b) (own_of b v d)))
    (sym (first_rows_stay row older n (omega arith)))

pub below_or_same : (n m : ℕ) → n < m → n ≤ m
below_or_same n m h = omega arith

-- whether an edit affects a name
abbrev pub affects_name : List ℕ → Edit → Bool
affects_name name edit = begins edit || changes name edit

-- one of two effects that set the same, where one of them does
set_by_either : (one two : Bool) (n : ℕ) (before : Option ℕ) → value_after (or_else (only_if one (Sets n)) (only_if two (Sets n)))
    before ≡ elim (one || two) [ true ↦ Some n | false ↦ before ]
set_by_either true two n before = refl
set_by_either false true n before = refl
set_by_either false false n before = refl

-- the row that affects a name lies in the base
pub entry_below : (v : List ℕ) (d : ℕ) (name : List ℕ) (b : Base) → IfSome (last_of (entry_effect v d name) b) (λ n. n < size b)
entry_below v d name [] = tt
entry_below v d name (row ∷ older) =
    let edit = edit_of v d (size older) row.deed in
    subst (λ found. IfSome found (λ n. n < suc (size older))) (sym (set_by_either (begins edit) (changes name edit) (size older)
    (last_of (entry_effect v d name) older)))
    (by (affects_name name edit) (last_of (entry_effect v d name) older) (entry_below v d name older))
  where
    by : (is : Bool) (found : Option ℕ) → IfSome found (λ n. n < size older)
        → IfSome (elim is [ true ↦ Some (size older) | false ↦ found ]) (λ n. n < suc (size older))
    by true found h = omega arith
    by false found h = weaker found (size older) h

-- A name in the catalog of a view's checkout of a directory is as the newest row leaves it that affects it.
pub entry_by_row : (v : List ℕ) (d : ℕ) (name : List ℕ) (b : Base) → element_named name (own_of b v d)
    ≡ entry_by b v d name (last_of (entry_effect v d name) b)
entry_by_row v d name [] = refl
entry_by_row v d name (row ∷ older) =
    by (affects_name name edit) refl (entry_by_row v d name older)
    ∙ ap (entry_by (row ∷ older) v d name) (sym (set_by_either (begins edit) (changes name edit) (size older)
    (last_of (entry_effect v d name) older)))
  where
    edit : Edit
    edit = edit_of v d (size older) row.deed

    by : (is : Bool) → affects_name name (edit_of v d (size older) row.deed) ≡ is
        → element_named name (own_of older v d) ≡ entry_by older v d name (last_of (entry_effect v d name) older)
        → element_named name (own_of (row ∷ older) v d) ≡ entry_by (row ∷ older) v d name
        (elim is [ true ↦ Some (size older) | false ↦ last_of (entry_effect v d name) older ])
    by true is before = sym (entry_here v d name row older)
    by false is before =
        let alone = or_parts (begins (edit_of v d (size older) row.deed)) (changes name (edit_of v d (size older) row.deed)) is in
        left_alone name (edit_of v d (size older) row.deed) (catalog_of older) (own_of older v d) alone.0 alone.1
        ∙ before
        ∙ entry_there v d name row older (last_of (entry_effect v d name) older) (entry_below v d name older)

-- the row by which a name is as it is affects it
pub row_affects : (v : List ℕ) (d : ℕ) (name : List ℕ) (b : Base) (n : ℕ) → last_of (entry_effect v d name) b ≡ Some n
    → affects_name name (edit_at b v d n) ≡ true
row_affects v d name [] n h = absurd (cc)
row_affects v d name (row ∷ older) n h =
    by (affects_name name edit) refl (sym (set_by_either (begins edit) (changes name edit) (size older)
    (last_of (entry_effect v d name) older)) ∙ h) (row_affects v d name older n)
  where
    edit : Edit
    edit = edit_of v d (size older) row.deed

    by : (is : Bool) → affects_name name (edit_of v d (size older) row.deed) ≡ is
        → elim is [ true ↦ Some (size older) | false ↦ last_of (entry_effect v d name) older ] ≡ Some n
        → (last_of (entry_effect v d name) older ≡ Some n → affects_name name (edit_at older v d n) ≡ true)
        → affects_name name (edit_at (row ∷ older) v d n) ≡ true
    by true is found before =
        let same : size older ≡ n = same_inside found in
        subst (λ m. affects_name name (edit_at (row ∷ older) v d m) ≡ true) same
        (ap (λ deed. affects_name name (edit_by v d (size older) deed)) (newest_deed row older) ∙ is)
    by false is found before =
        let below : n < size older = subst (λ o. IfSome o (λ m. m < size older)) found (entry_below v d name older) in
        ap (λ deed. affects_name name (edit_by v d n deed)) (deed_stays row older n below) ∙ before found

abbrev pub from_source : Base → CatalogSource → Catalog
from_source older Empty = []
from_source older (OfVersion origin) = catalog_of older origin
from_source older (OfCheckout v e) = own_of older v e

-- the catalog of the version that a row made, by its deed
abbrev pub catalog_made : Base → Option Deed → Catalog
catalog_made older None = []
catalog_made older (Some deed) = from_source older (catalog_source deed)

pub catalog_by_row : (b : Base) (r : ℕ) → catalog_of b r ≡ catalog_made (first_rows r b) (deed_at b r)
catalog_by_row [] r = refl
catalog_by_row (row ∷ older) r = by (size older == r) refl (catalog_by_row older r)
  where
    made : (source : CatalogSource) → made_or_older true source (catalog_of older) (own_of older) r ≡ from_source older source
    made Empty = refl
    made (OfVersion origin) = refl
    made (OfCheckout v e) = refl

    stays : (deed : Option Deed) → deed_at older r ≡ deed → catalog_made (first_rows r older) deed
        ≡ catalog_made (first_rows r (row ∷ older)) deed
    stays None is = refl
    stays (Some deed) is = ap (λ (b : Base). from_source b (catalog_source deed))
        (sym (first_rows_stay row older r (below_or_same r (size older) (deed_below older r deed is))))

    by : (is : Bool) → (size older == r) ≡ is → catalog_of older r ≡ catalog_made (first_rows r older) (deed_at older r)
        → made_or_older is (catalog_source row.deed) (catalog_of older) (own_of older) r
        ≡ catalog_made (first_rows r (row ∷ older)) (deed_of (elim is [ true ↦ Some row | false ↦ row_at older r ]))
    by true is before =
        made (catalog_source row.deed)
        ∙ ap (λ (b : Base). from_source b (catalog_source row.deed)) (sym (below_newest row older)
        ∙ ap (λ n. first_rows n (row ∷ older)) ((Decides-eqb (size older) r).0 is))
    by false is before = before ∙ stays (deed_at older r) refl

-- a deed that or_parts makes a branch nor checks in makes an empty catalog
pub no_source : (deed : Deed) → ((v : List ℕ) (e origin : ℕ) (name : List ℕ) (out : Out) → deed ≡ deeds.Branch v e origin name out
    → ⊥) → ((v : List ℕ) (e : ℕ) → deed ≡ deeds.Checkin v e → ⊥)
    → catalog_source deed ≡ Empty
no_source (deeds.Branch v e origin name out) one two = absurd (one v e origin name out refl)
no_source (deeds.Checkin v e) one two = absurd (two v e refl)
no_source deed one two = refl

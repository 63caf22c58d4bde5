-- What a catalog of a base names is an element.
use Rattle.std.proofs.Common.{◌≡◌, refl, ap, subst, ℕ, Bool, true, false, cond, not, ◌&&◌, ◌==◌, Option, Some, None, List, []}
use Rattle.std.proofs.Common.{◌∷◌}
use Rattle.std.specs.Prelude.{is_some, option_and_then, bytes_eq}
use Rattle.std.specs.Bool.{⊤}
use Rattle.std.specs.Ordering.{nat_cmp, eq_by_cmp}
use Rattle.std.specs.declared.cmp.Ordering.{Ordering}
use Rattle.std.specs.declared.cmp.Ordering.TheVariants.{Less, Equal, Greater}
use Rattle.std.specs.Cmp.Lexicographic.{slice_cmp}
use Rattle.std.specs.FinMap.Entries.{by_order}
use Rattle.cc_names.specs.Formed.{Plain}
use Rattle.cc_names.specs.Versions.{kind_of, kind_by, change_at}
use Rattle.cc_names.specs.declared.changes.TreeChange.TheVariants.{ElementMade}
use Rattle.cc_names.specs.declared.rows.Deed.{Deed}
use Rattle.cc_names.specs.declared.rows.Deed.TheVariants as deeds
use Rattle.cc_names.specs.declared.rows.Kind.{Kind}
use Rattle.base_model.specs.Rows.{Base, size}
use Rattle.base_model.specs.Catalogs.{Catalog, Edit, Same, BeginsEmpty, BeginsAs, Adds, Removes, Renames, CatalogSource, Empty}
use Rattle.base_model.specs.Catalogs.{OfVersion, OfCheckout, element_named, with_name, without_name, with_new_name}
use Rattle.base_model.specs.Catalogs.{catalog_after, edit_of, edit_where, first_edit, is_out, catalog_source, made_or_older}
use Rattle.base_model.specs.Catalogs.{catalog_of, own_of}
use Rattle.base_model.specs.Changes.{tree}
use Rattle.base_model.proofs.Owned.{same_is_same}
use Rattle.base_model.proofs.VersionsStay.{kind_stays}

-- an element of the base
abbrev pub IsElement : Base → ℕ → Type 0
IsElement b e = is_some (kind_of (tree b) e) ≡ true

abbrev pub AllElements : Base → Catalog → Type 0
AllElements b [] = ⊤
AllElements b (entry ∷ catalog) = IsElement b entry.1 × AllElements b catalog

pub element_stays : (row : Plain) (b : Base) (e : ℕ) → IsElement b e → IsElement (row ∷ b) e
element_stays row b e h = by (kind_of (tree b) e) refl h
  where
    by : (o : Option Kind) → kind_of (tree b) e ≡ o → is_some o ≡ true → IsElement (row ∷ b) e
    by None is h = absurd (cc)
    by (Some k) is h = ap is_some (kind_stays row b e k is)

all_stay : (row : Plain) (b : Base) (catalog : Catalog) → AllElements b catalog → AllElements (row ∷ b) catalog
all_stay row b [] h = tt
all_stay row b (entry ∷ catalog) h = (element_stays row b entry.1 h.0, all_stay row b catalog h.1)

by_place : (b : Base) (o : Ordering) (one two three : Catalog) → AllElements b one → AllElements b two → AllElements b three
    → AllElements b (by_order o one two three)
by_place b Less one two three f g h = f
by_place b Equal one two three f g h = g
by_place b Greater one two three f g h = h

all_put : (b : Base) (name : List ℕ) (e : ℕ) (catalog : Catalog) → IsElement b e → AllElements b catalog
    → AllElements b (with_name name e catalog)
all_put b name e [] is h = (is, tt)
all_put b name e (entry ∷ catalog) is h =
    by_place b (slice_cmp nat_cmp name entry.0) ((name, e) ∷ entry ∷ catalog) ((entry.0, e) ∷ catalog)
    (entry ∷ with_name name e catalog)
    (is, h) (is, h.1) (h.0, all_put b name e catalog is h.1)

filtered : (b : Base) (test : Bool) (entry : List ℕ × ℕ) (rest : Catalog) → IsElement b entry.1 → AllElements b rest
    → AllElements b (cond test (entry ∷ rest) rest)
filtered b true entry rest is h = (is, h)
filtered b false entry rest is h = h

all_without : (b : Base) (name : List ℕ) (catalog : Catalog) → AllElements b catalog → AllElements b (without_name name catalog)
all_without b name [] h = tt
all_without b name (entry ∷ catalog) h = filtered b (not (bytes_eq entry.0 name)) entry (without_name name catalog) h.0
    (all_without b name catalog h.1)

pub named_element : (b : Base) (name : List ℕ) (catalog : Catalog) (e : ℕ) → AllElements b catalog
    → element_named name catalog ≡ Some e → IsElement b e
named_element b name [] e h is = absurd (cc)
named_element b name (entry ∷ catalog) e h is = by (eq_by_cmp (slice_cmp nat_cmp) name entry.0) is
    (named_element b name catalog e h.1)
  where
    by : (x : Bool) → cond x (Some entry.1) (element_named name catalog) ≡ Some e
        → (element_named name catalog ≡ Some e → IsElement b e) → IsElement b e
    by true is rest = let same : entry.1 ≡ e = cc in subst (IsElement b) same h.0
    by false is rest = rest is

renamed_all : (b : Base) (name : List ℕ) (o : Option ℕ) (catalog : Catalog) → ((e : ℕ) → o ≡ Some e → IsElement b e)
    → AllElements b catalog → AllElements b (with_new_name name o catalog)
renamed_all b name None catalog is h = h
renamed_all b name (Some e) catalog is h = all_put b name e catalog (is e refl) h

-- an edit that adds no name but that of an element
abbrev AddsElement : Base → Edit → Type 0
AddsElement b (Adds name e) = IsElement b e
AddsElement b edit = ⊤

edited_all : (b : Base) (edit : Edit) (of_version : ℕ → Catalog) (own : Catalog) → AddsElement b edit
    → ((r : ℕ) → AllElements b (of_version r)) → AllElements b own → AllElements b (catalog_after edit of_version own)
edited_all b Same of_version own adds h g = g
edited_all b BeginsEmpty of_version own adds h g = tt
edited_all b (BeginsAs origin) of_version own adds h g = h origin
edited_all b (Adds name e) of_version own adds h g = all_put b name e own adds g
edited_all b (Removes name) of_version own adds h g = all_without b name own g
edited_all b (Renames from_name to_name) of_version own adds h g =
    renamed_all b to_name (element_named from_name own) (without_name from_name own)
    (λ e is. named_element b from_name own e g is) (all_without b from_name own g)

edit_if : (b : Base) (test : Bool) (edit : Edit) → AddsElement b edit → AddsElement b (edit_where test edit)
edit_if b true edit h = h
edit_if b false edit h = tt

edit_first : (b : Base) (test : Bool) (edit : Edit) → AddsElement b edit → AddsElement b (first_edit test BeginsEmpty edit)
edit_first b true edit h = tt
edit_first b false edit h = h

row_adds : (row : Plain) (older : Base) (v : List ℕ) (d : ℕ) (deed : Deed) → row.deed ≡ deed
    → AddsElement (row ∷ older) (edit_of v d (size older) deed)
row_adds row older v d (deeds.Mkelem w f name kind out_too) is =
    edit_first (row ∷ older) (bytes_eq w v && (size older == d) && out_too)
    (edit_where (bytes_eq w v && (f == d)) (Adds name (size older)))
    (edit_if (row ∷ older) (bytes_eq w v && (f == d)) (Adds name (size older)) new)
  where
    new : IsElement (row ∷ older) (size older)
    new = rw is (ap (λ b. is_some (option_and_then kind_by (cond b (Some (ElementMade (size older) row.moment kind))
        (change_at (tree older) (size older))))) (same_is_same (size older)))
row_adds row older v d (deeds.Checkout w e origin reserved) is = edit_if (row ∷ older) (bytes_eq w v && (e == d))
    (BeginsAs origin) tt
row_adds row older v d (deeds.Branch w e origin name how) is = edit_if (row ∷ older) (bytes_eq w v && (e == d) && is_out how)
    (BeginsAs origin) tt
row_adds row older v d (deeds.Rmname w f name) is = edit_if (row ∷ older) (bytes_eq w v && (f == d)) (Removes name) tt
row_adds row older v d (deeds.Mv w f from_name to_name) is = edit_if (row ∷ older) (bytes_eq w v && (f == d))
    (Renames from_name to_name) tt
row_adds row older v d deed is = tt

made_all : (b : Base) (test : Bool) (source : CatalogSource) (of_version : ℕ → Catalog) (of_checkout : List ℕ → ℕ
    → Catalog) (r : ℕ) →
    ((r : ℕ) → AllElements b (of_version r)) → ((v : List ℕ) (d : ℕ) → AllElements b (of_checkout v d))
    → AllElements b (made_or_older test source of_version of_checkout r)
made_all b false source of_version of_checkout r h g = h r
made_all b true Empty of_version of_checkout r h g = tt
made_all b true (OfVersion origin) of_version of_checkout r h g = h origin
made_all b true (OfCheckout v e) of_version of_checkout r h g = g v e

-- the catalogs of a base
pub record Catalogued (b : Base) : Type 0 where
  pub versions : (r : ℕ) → AllElements b (catalog_of b r)
  pub checkouts : (v : List ℕ) (d : ℕ) → AllElements b (own_of b v d)

pub catalogued : (b : Base) → Catalogued b
catalogued [] = record { versions = λ r. tt; checkouts = λ v d. tt }
catalogued (row ∷ older) =
    let before = catalogued older in
    let versions : (r : ℕ) → AllElements (row ∷ older) (catalog_of older r) =
    λ r. all_stay row older (catalog_of older r) (before.versions r) in
    let checkouts : (v : List ℕ) (d : ℕ) → AllElements (row ∷ older) (own_of older v d) =
    λ v d. all_stay row older (own_of older v d) (before.checkouts v d) in
    record {
      versions = λ r. made_all (row ∷ older) (size older == r) (catalog_source row.deed) (catalog_of older) (own_of older) r
          versions checkouts;
      checkouts = λ v d. edited_all (row ∷ older) (edit_of v d (size older) row.deed) (catalog_of older) (own_of older v d)
          (row_adds row older v d row.deed refl) versions (checkouts v d);
    }

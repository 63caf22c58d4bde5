-- The catalog of a directory's version, and of a view's checkout of a directory: names in byte order, each with its element.
use Rattle.std.specs.Prelude.{ℕ, Bool, true, false, not, ◌&&◌, ◌==◌, Option, Some, None, List, [], ◌∷◌, bytes_eq}
use Rattle.std.specs.Ordering.{nat_cmp}
use Rattle.std.specs.Cmp.Lexicographic.{slice_cmp}
use Rattle.std.specs.FinMap.Entries.{put, find, where_key}
use Rattle.cc_names.specs.declared.rows.Deed.{Deed}
use Rattle.cc_names.specs.declared.rows.Deed.TheVariants as deeds
use Rattle.cc_names.specs.declared.rows.Out.{Out}
use Rattle.cc_names.specs.declared.rows.Out.TheVariants as outs
use Rattle.base_model.specs.Rows.{Base, size}

-- a catalog: names with their elements, in byte order of the names, each name once
abbrev pub Catalog : Type 0
Catalog = List (List ℕ × ℕ)

-- the element that the catalog names so
abbrev pub element_named : List ℕ → Catalog → Option ℕ
element_named name catalog = find (slice_cmp nat_cmp) name catalog

-- the catalog with one more name
abbrev pub with_name : List ℕ → ℕ → Catalog → Catalog
with_name name e catalog = put (slice_cmp nat_cmp) name e catalog

-- the catalog without a name
abbrev pub without_name : List ℕ → Catalog → Catalog
without_name name catalog = where_key (slice_cmp nat_cmp) (λ key. not (bytes_eq key name)) catalog

-- the catalog with a new name for an element, where there is one
abbrev pub with_new_name : List ℕ → Option ℕ → Catalog → Catalog
with_new_name name None catalog = catalog
with_new_name name (Some e) catalog = with_name name e catalog

-- where the catalog that a row makes comes from
pub data CatalogSource : Type 0 where
  Empty : CatalogSource
  OfVersion : ℕ → CatalogSource
  OfCheckout : List ℕ → ℕ → CatalogSource

-- A new directory is empty, a branch begins with its origin's catalog, and a checkin keeps that of the checkout.
abbrev pub catalog_source : Deed → CatalogSource
catalog_source (deeds.Branch v e origin name out) = OfVersion origin
catalog_source (deeds.Checkin v e) = OfCheckout v e
catalog_source deed = Empty

-- what a deed does to the catalog of a view's checkout of a directory
pub data Edit : Type 0 where
  Same : Edit
  BeginsEmpty : Edit
  BeginsAs : ℕ → Edit
  Adds : List ℕ → ℕ → Edit
  Removes : List ℕ → Edit
  Renames : List ℕ → List ℕ → Edit

-- an edit where a test holds, else none
abbrev pub edit_where : Bool → Edit → Edit
edit_where true edit = edit
edit_where false edit = Same

-- an edit by one test, else by another
abbrev pub first_edit : Bool → Edit → Edit → Edit
first_edit true edit other = edit
first_edit false edit other = other

-- whether a new branch is checked out
abbrev pub is_out : Out → Bool
is_out outs.No = false
is_out outs.Reserved = true
is_out outs.Unreserved = true

-- The view's checkout of directory d, by the deed of row n.
abbrev pub edit_of : List ℕ → ℕ → ℕ → Deed → Edit
edit_of v d n (deeds.Mkelem w f name kind out) =
    first_edit (bytes_eq w v && (n == d) && out) BeginsEmpty (edit_where (bytes_eq w v && (f == d)) (Adds name n))
edit_of v d n (deeds.Checkout w e origin reserved) = edit_where (bytes_eq w v && (e == d)) (BeginsAs origin)
edit_of v d n (deeds.Branch w e origin name out) = edit_where (bytes_eq w v && (e == d) && is_out out) (BeginsAs origin)
edit_of v d n (deeds.Rmname w f name) = edit_where (bytes_eq w v && (f == d)) (Removes name)
edit_of v d n (deeds.Mv w f from_name to_name) = edit_where (bytes_eq w v && (f == d)) (Renames from_name to_name)
edit_of v d n deed = Same

-- the checkout's catalog after an edit, where versions have these catalogs
abbrev pub catalog_after : Edit → (ℕ → Catalog) → Catalog → Catalog
catalog_after Same of_version own = own
catalog_after BeginsEmpty of_version own = []
catalog_after (BeginsAs origin) of_version own = of_version origin
catalog_after (Adds name e) of_version own = with_name name e own
catalog_after (Removes name) of_version own = without_name name own
catalog_after (Renames from_name to_name) of_version own = with_new_name to_name (element_named from_name own)
    (without_name from_name own)

-- the catalog of row r: that of the newest row where it is this one, else an older one
abbrev pub made_or_older : Bool → CatalogSource → (ℕ → Catalog) → (List ℕ → ℕ → Catalog) → ℕ → Catalog
made_or_older false source of_version of_checkout r = of_version r
made_or_older true Empty of_version of_checkout r = []
made_or_older true (OfVersion origin) of_version of_checkout r = of_version origin
made_or_older true (OfCheckout v e) of_version of_checkout r = of_checkout v e

abbrev mutual
  -- the catalog of the version that row r made; that of the root's version 0 is empty
  pub catalog_of : Base → ℕ → Catalog
  catalog_of [] r = []
  catalog_of (row ∷ older) r = made_or_older (size older == r) (catalog_source row.deed) (catalog_of older) (own_of older) r

  -- the catalog of the view's checkout of directory d
  pub own_of : Base → List ℕ → ℕ → Catalog
  own_of [] v d = []
  own_of (row ∷ older) v d = catalog_after (edit_of v d (size older) row.deed) (catalog_of older) (own_of older v d)

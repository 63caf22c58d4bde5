-- Every catalog of a base is in byte order of its names, each once.
use Rattle.std.proofs.Common.{◌≡◌, ℕ, Bool, true, false, not, ◌==◌, Option, Some, None, List, [], ◌∷◌}
use Rattle.std.proofs.lemmas.Cmp.{nat_list_cmp_total}
use Rattle.std.specs.Cmp.Lexicographic.{slice_cmp}
use Rattle.std.specs.FinMap.Entries.{is_sorted, is_sorted-put, is_sorted-where_key}
use Rattle.std.specs.Ordering.{nat_cmp}
use Rattle.std.specs.Prelude.{T, bytes_eq}
use Rattle.base_model.specs.Rows.{Base, size}
use Rattle.base_model.specs.Catalogs.{Catalog, Edit, Same, BeginsEmpty, BeginsAs, Adds, Removes, Renames, CatalogSource, Empty}
use Rattle.base_model.specs.Catalogs.{OfVersion, OfCheckout, element_named, without_name, with_new_name, catalog_after, edit_of}
use Rattle.base_model.specs.Catalogs.{catalog_source, made_or_older, catalog_of, own_of}
use Rattle.base_model.proofs.HeldObjects.{true_by}

abbrev InOrder : Catalog → Type 0
InOrder catalog = T (is_sorted (slice_cmp nat_cmp) catalog)

renamed : (name : List ℕ) (o : Option ℕ) (catalog : Catalog) → InOrder catalog → InOrder (with_new_name name o catalog)
renamed name None catalog h = h
renamed name (Some e) catalog h = is_sorted-put (slice_cmp nat_cmp) nat_list_cmp_total name e catalog h

without : (name : List ℕ) (catalog : Catalog) → InOrder catalog → InOrder (without_name name catalog)
without name catalog h = is_sorted-where_key (slice_cmp nat_cmp) (λ key. not (bytes_eq key name)) catalog h

after_edit : (edit : Edit) (of_version : ℕ → Catalog) (own : Catalog) → ((r : ℕ) → InOrder (of_version r)) → InOrder own
    → InOrder (catalog_after edit of_version own)
after_edit Same of_version own h g = g
after_edit BeginsEmpty of_version own h g = tt
after_edit (BeginsAs origin) of_version own h g = h origin
after_edit (Adds name e) of_version own h g = is_sorted-put (slice_cmp nat_cmp) nat_list_cmp_total name e own g
after_edit (Removes name) of_version own h g = without name own g
after_edit (Renames from_name to_name) of_version own h g = renamed to_name (element_named from_name own)
    (without_name from_name own) (without from_name own g)

of_row : (test : Bool) (source : CatalogSource) (of_version : ℕ → Catalog) (of_checkout : List ℕ → ℕ → Catalog) (r : ℕ)
    → ((r : ℕ) → InOrder (of_version r)) → ((v : List ℕ) (d : ℕ) → InOrder (of_checkout v d)) →
    InOrder (made_or_older test source of_version of_checkout r)
of_row false source of_version of_checkout r h g = h r
of_row true Empty of_version of_checkout r h g = tt
of_row true (OfVersion origin) of_version of_checkout r h g = h origin
of_row true (OfCheckout v e) of_version of_checkout r h g = g v e

record AllInOrder (b : Base) : Type 0 where
  versions : (r : ℕ) → InOrder (catalog_of b r)
  checkouts : (v : List ℕ) (d : ℕ) → InOrder (own_of b v d)

all_in_order : (b : Base) → AllInOrder b
all_in_order [] = record { versions = λ r. tt; checkouts = λ v d. tt }
all_in_order (row ∷ older) =
    let before = all_in_order older in
    record {
      versions = λ r. of_row (size older == r) (catalog_source row.deed) (catalog_of older) (own_of older) r before.versions
          before.checkouts;
      checkouts = λ v d. after_edit (edit_of v d (size older) row.deed) (catalog_of older) (own_of older v d) before.versions
          (before.checkouts v d);
    }

pub version_in_order : (b : Base) (r : ℕ) → is_sorted (slice_cmp nat_cmp) (catalog_of b r) ≡ true
version_in_order b r = true_by (is_sorted (slice_cmp nat_cmp) (catalog_of b r)) ((all_in_order b).versions r)

pub checkout_in_order : (b : Base) (v : List ℕ) (d : ℕ) → is_sorted (slice_cmp nat_cmp) (own_of b v d) ≡ true
checkout_in_order b v d = true_by (is_sorted (slice_cmp nat_cmp) (own_of b v d)) ((all_in_order b).checkouts v d)

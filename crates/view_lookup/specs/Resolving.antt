-- What is known of a name in a catalog, and where it stands for another one.
use Rattle.std.specs.Prelude.{◌≡◌, ℕ, ◌<◌, List, length}
use Rattle.base_model.specs.Catalogs.{Catalog, element_named, catalog_of, own_of}
use Rattle.base_model.specs.Rows.{Base, first_rows}
use Rattle.view_lookup.specs.declared.catalogs.Catalog as places
use Rattle.view_lookup.specs.declared.catalogs.Catalog.TheVariants.{OfVersion, OfCheckout}
use Rattle.view_lookup.specs.declared.catalogs.Resolution.{Resolution}
use Rattle.view_lookup.specs.declared.catalogs.Resolution.TheVariants.{Is, As}

-- the catalog that is meant, in a base
abbrev pub catalog_in : Base → places.Catalog → Catalog
catalog_in b (OfVersion r) = catalog_of b r
catalog_in b (OfCheckout v d) = own_of b v.now d

-- what is known of a name in a catalog is so, and where it stands for another name, that is one in a catalog of fewer rows
abbrev pub Resolves : Base → List ℕ → Catalog → Resolution → Type 0
Resolves b name catalog (Is found) = element_named name catalog ≡ found
Resolves b name catalog (As count place other) =
    (length (first_rows count b) < length b) × (element_named name catalog
    ≡ element_named other.now (catalog_in (first_rows count b) place))

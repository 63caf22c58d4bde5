-- The name is there as in the catalog of the row that tells of it.
use Rattle.std.proofs.Common.{◌≡◌, List, ℕ, sym, ap, ◌∙◌}
use Rattle.base_model.specs.Catalogs.{Catalog, catalog_of, element_named}
use Rattle.base_model.specs.Rows.{Base}
use Rattle.view_lookup.specs.Resolving.{Resolves}
use Rattle.view_lookup.specs.declared.catalogs.Resolution.{Resolution}
use Rattle.view_lookup.specs.declared.catalogs.Resolution.TheVariants.{Is, As}
use Rattle.view_lookup.proofs.ChangedNames.{version_by_altering_row}
use Rattle.view_lookup.proofs.catalogs.entry_of_version.Goals as goal

resolves_same : (b : Base) (name : List ℕ) (one two : Catalog) (it : Resolution) → element_named name one ≡ element_named name two
    → Resolves b name two it → Resolves b name one it
resolves_same b name one two (Is found) same is = same ∙ is
resolves_same b name one two (As count place other) same is = (is.0, same ∙ is.1)

pub returns-in-Some : goal.returns-in-Some
returns-in-Some c =
    let b = c.args.rows.now in
    let name = c.args.name.now in
    resolves_same b name (catalog_of b c.args.version) (catalog_of b c.altering_row.result) c.entry_made-in-Some.result
    (version_by_altering_row b c.are_base.ensures name c.args.version c.in-Some.branch (sym c.branch_of_version.ensures
    ∙ c.in-Some.is) ∙ ap (λ n. element_named name (catalog_of b n)) (sym c.altering_row.ensures))
    c.entry_made-in-Some.ensures

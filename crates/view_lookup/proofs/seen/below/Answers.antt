-- The path of the names is the path itself, which is no longer than paths that are seen.
use Rattle.std.proofs.Common.{◌≡◌, ◌≤◌, ℕ, Some, List, length, sym, ap, ◌∙◌}
use Rattle.std.specs.Prelude.{if◌then◌else◌}
use Rattle.std.proofs.lemmas.Bool.{le-leb}
use Rattle.cc_names.specs.Paths.{names_of}
use Rattle.cc_names.proofs.PathParts.{path_of_names-names_of}
use Rattle.cc_names.specs.declared.selection.Seen.TheVariants.{Nothing}
use Rattle.base_model.specs.Catalogs.{Catalog, element_named}
use Rattle.base_model.specs.Rows.{Base}
use Rattle.base_model.specs.Seen.{below, element_at, path_limit, private_or, unless_too_long}
use Rattle.base_model.specs.Views.{private}
use Rattle.view_lookup.proofs.seen.below.Goals as goal

below_short : (b : Base) (v path name : List ℕ) (entries : Catalog) → length path ≤ path_limit
    → below b v (names_of path) name (Some entries) ≡ private_or (private b v path)
    (element_at b v (names_of path) (element_named name entries))
below_short b v path name entries short =
    let seen = element_at b v (names_of path) (element_named name entries) in
    ap (λ whole. unless_too_long whole (private_or (private b v whole) seen)) (path_of_names-names_of path)
    ∙ ap (λ is. if is then private_or (private b v path) seen else Nothing) (le-leb (length path) path_limit short)

pub returns-in-Some : goal.returns-in-Some
returns-in-Some c =
    let b = c.args.rows.now in
    let v = c.args.view.now in
    let path = c.args.path.now in
    let name = c.args.name.now in
    c.in_catalog.ensures
    ∙ sym (below_short b v path name _ c.requires)
    ∙ ap (below b v (names_of path) name) c.in-Some.ensures

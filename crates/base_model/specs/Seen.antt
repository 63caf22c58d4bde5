-- What a view has at a path.
use Rattle.std.specs.Prelude.{ℕ, Bool, true, false, nat_le, Option, Some, None, Result, Ok, Err, List, [], ◌∷◌, length, reverse}
use Rattle.std.specs.Prelude.{if◌then◌else◌}
use Rattle.cc_names.specs.Paths.{names_of, path_of_names}
use Rattle.cc_names.specs.Versions.{kind_of}
use Rattle.cc_names.specs.declared.rows.Kind.{Kind}
use Rattle.cc_names.specs.declared.rows.Kind.TheVariants.{File, Directory}
use Rattle.cc_names.specs.declared.refusals.SpecError.{SpecError}
use Rattle.cc_names.specs.declared.selection.Picked.{Picked}
use Rattle.cc_names.specs.declared.selection.Rule.{Rule}
use Rattle.cc_names.specs.declared.selection.Seen.{Seen}
use Rattle.cc_names.specs.declared.selection.Seen.TheVariants.{Private, Element, Unselected, Nothing}
use Rattle.base_model.specs.ConfigSpecs.Rules.{Selectables, pick}
use Rattle.base_model.specs.ConfigSpecs.Specs.{rules_of}
use Rattle.base_model.specs.Rows.{Base}
use Rattle.base_model.specs.Catalogs.{Catalog, catalog_of, own_of, element_named}
use Rattle.base_model.specs.Changes.{tree, labels}
use Rattle.base_model.specs.Closures.{recorded_version}
use Rattle.base_model.specs.Views.{making, private, spec_text}

-- the rules that were read, or none
abbrev pub rules_read : Result (List Rule) SpecError → List Rule
rules_read (Ok rules) = rules
rules_read (Err error) = []

-- the rules of a config spec's text, where there is one
abbrev pub rules_of_spec : Option (List ℕ) → List Rule
rules_of_spec None = []
rules_of_spec (Some text) = rules_read (rules_of text)

-- the rules of the view's config spec
abbrev pub rules : Base → List ℕ → List Rule
rules b v = rules_of_spec (spec_text b v)

-- what the view selects an element's version from
abbrev pub sources : Base → List ℕ → ℕ → Selectables
sources b v e = record { tree = tree b; labels = labels b; listed = recorded_version b; out = making b v e }

-- what the view's first rule that decides picks of the element at the path of these names
abbrev pub selection_at : Base → List ℕ → ℕ → List (List ℕ) → Option Picked
selection_at b v e names = pick (sources b v e) e names (rules b v)

-- an element with what was picked of it
abbrev pub as_seen : ℕ → Option Picked → Seen
as_seen e (Some picked) = Element e picked
as_seen e None = Unselected e

-- a view's own catalog where its checkout was picked, else that of the version
abbrev pub catalog_by : Bool → Catalog → Catalog → Catalog
catalog_by true own version = own
catalog_by false own version = version

-- the catalog of a selected directory
abbrev pub entries_by : Base → List ℕ → ℕ → Picked → Option Kind → Option Catalog
entries_by b v e picked (Some Directory) = Some (catalog_by picked.out (own_of b v e) (catalog_of b picked.row))
entries_by b v e picked _ = None

-- the catalog of what stands somewhere, where it is a directory with a selected version
abbrev pub entries_of : Base → List ℕ → Seen → Option Catalog
entries_of b v (Element e picked) = entries_by b v e picked (kind_of (tree b) e)
entries_of b v _ = None

-- an element that a catalog names, at the path of these names
abbrev pub element_at : Base → List ℕ → List (List ℕ) → Option ℕ → Seen
element_at b v names None = Nothing
element_at b v names (Some e) = as_seen e (selection_at b v e names)

-- a private file hides an element of the same name
abbrev pub private_or : Option ℕ → Seen → Seen
private_or (Some row) seen = Private row
private_or None seen = seen

-- the most bytes of a path that is seen
abbrev pub path_limit : ℕ
path_limit = 1024

-- what stands at a path, unless it is too long to be seen: renamed directories can make such paths
abbrev pub unless_too_long : List ℕ → Seen → Seen
unless_too_long path seen = if nat_le (length path) path_limit then seen else Nothing

-- what stands at the path of these names, whose last one is looked for in a catalog
abbrev pub below : Base → List ℕ → List (List ℕ) → List ℕ → Option Catalog → Seen
below b v names name None = Nothing
below b v names name (Some entries) =
    unless_too_long (path_of_names names) (private_or (private b v (path_of_names names))
    (element_at b v names (element_named name entries)))

-- what stands at the path of these names, the last name first; the root is element 0
abbrev pub at_names : Base → List ℕ → List (List ℕ) → Seen
at_names b v [] = as_seen 0 (selection_at b v 0 [])
at_names b v (name ∷ above) = below b v (reverse (name ∷ above)) name (entries_of b v (at_names b v above))

-- what stands at a path
abbrev pub at : Base → List ℕ → List ℕ → Seen
at b v path = at_names b v (reverse (names_of path))

-- the row picked of an element, where it is of this kind
abbrev pub row_of_file : Picked → Option Kind → Option ℕ
row_of_file picked (Some File) = Some picked.row
row_of_file picked _ = None

-- the same for a directory
abbrev pub row_of_directory : Picked → Option Kind → Option ℕ
row_of_directory picked (Some Directory) = Some picked.row
row_of_directory picked _ = None

-- the row that made the text of a private file or of a selected file element
abbrev pub file_seen : Base → Seen → Option ℕ
file_seen b (Private row) = Some row
file_seen b (Element e picked) = row_of_file picked (kind_of (tree b) e)
file_seen b _ = None

-- the making row of the file that the view sees at the path
abbrev pub file_at : Base → List ℕ → List ℕ → Option ℕ
file_at b v path = file_seen b (at b v path)

-- the selected version of a directory
abbrev pub directory_seen : Base → Seen → Option ℕ
directory_seen b (Element e picked) = row_of_directory picked (kind_of (tree b) e)
directory_seen b _ = None

-- the version of the directory that the view sees at the path
abbrev pub directory_at : Base → List ℕ → List ℕ → Option ℕ
directory_at b v path = directory_seen b (at b v path)

-- The texts that list what is there: the names of a directory, and the objects that a view holds.
use Rattle.std.specs.Prelude.{ℕ, Bool, true, false, ◌&&◌, Option, Some, None, List, [], ◌∷◌, ◌++◌, codes, decimal, is_some, map}
use Rattle.std.specs.Prelude.{bytes_eq}
use Rattle.std.specs.Option.{option_map_or}
use Rattle.std.specs.List.{concat}
use Rattle.std.specs.Ordering.{nat_cmp}
use Rattle.std.specs.Cmp.Lexicographic.{slice_cmp}
use Rattle.std.specs.FinMap.Entries.{put}
use Rattle.cc_names.specs.Paths.{names_of, path_of_names}
use Rattle.cc_names.specs.References.{ReferencesByPath, held_at, count}
use Rattle.cc_names.specs.declared.rows.Deed.{Deed}
use Rattle.cc_names.specs.declared.rows.Deed.TheVariants as deeds
use Rattle.cc_names.specs.declared.selection.Picked.{Picked}
use Rattle.cc_names.specs.declared.selection.Seen.{Seen}
use Rattle.cc_names.specs.declared.selection.Seen.TheVariants.{Private, Element, Unselected, Nothing}
use Rattle.base_model.specs.Rows.{Base}
use Rattle.base_model.specs.Catalogs.{Catalog}
use Rattle.base_model.specs.Changes.{objects_held}
use Rattle.legal_history.specs.Commands.FileLines.{parent, last_name}
use Rattle.base_model.specs.Seen.{at, entries_of}
use Rattle.legal_history.specs.Queries.VersionNames.{line, version_name, at_version}
use Rattle.base_model.specs.Views.{Checkout, out, private}

-- names with what stands at each, in byte order
abbrev pub Names : Type 0
Names = List (List ℕ × Seen)

-- the path of a name in a directory
abbrev pub path_of_entry : List ℕ → List ℕ → List ℕ
path_of_entry directory name = path_of_names (names_of directory ++ name ∷ [])

-- a name with what stands there, where it is one that is listed
abbrev pub with_name_if : Bool → List ℕ → Seen → Names → Names
with_name_if true name seen names = put (slice_cmp nat_cmp) name seen names
with_name_if false name seen names = names

-- whether anything stands there
abbrev pub is_something : Seen → Bool
is_something Nothing = false
is_something seen = true

-- a name with what stands at its path, put among others where anything is seen there
abbrev pub with_path : Base → List ℕ → List ℕ → List ℕ → Names → Names
with_path b v name path names = with_name_if (is_something (at b v path)) name (at b v path) names

-- the names of a catalog, put among others
abbrev pub catalog_names : Base → List ℕ → List ℕ → Catalog → Names → Names
catalog_names b v directory [] names = names
catalog_names b v directory (entry ∷ catalog) names = with_path b v entry.0 (path_of_entry directory entry.0)
    (catalog_names b v directory catalog names)

-- a path, where the view has a private file there and it lies in the directory
abbrev pub with_private : Base → List ℕ → List ℕ → Deed → Names → Names
with_private b v directory (deeds.Put w path text) names =
    with_name_if (bytes_eq w v && bytes_eq (parent path) directory && is_some (private b v path)) (last_name path) (at b v path)
    names
with_private b v directory deed names = names

-- the names of private files that some rows put, put among others
abbrev pub private_names : Base → List ℕ → List ℕ → Base → Names → Names
private_names b v directory [] names = names
private_names b v directory (row ∷ older) names = with_private b v directory row.deed (private_names b v directory older names)

-- the names of the view's objects in the directory, put among others
abbrev pub object_names : Base → List ℕ → List ℕ → ReferencesByPath → Names → Names
object_names b v directory [] names = names
object_names b v directory (entry ∷ objects_held) names =
    with_name_if (bytes_eq entry.0.0 v && bytes_eq (parent entry.0.1) directory) (last_name entry.0.1) (at b v entry.0.1)
    (object_names b v directory objects_held names)

-- a catalog, of no names where there is none: of what is no directory with a selected version
abbrev pub catalog_or_none : Option Catalog → Catalog
catalog_or_none None = []
catalog_or_none (Some catalog) = catalog

-- the names of a directory: of its catalog, of private files and of objects
abbrev pub names_in : Base → List ℕ → List ℕ → Names
names_in b v directory =
    catalog_names b v directory (catalog_or_none (entries_of b v (at b v directory)))
    (private_names b v directory b (object_names b v directory (objects_held b) []))

-- ` rule N`
abbrev pub by_rule : ℕ → List ℕ
by_rule number = codes " rule " ++ decimal number

-- the version from which the view's checkout was made; it is asked for where that is selected, so there is one
abbrev pub origin_name : Base → Option Checkout → List ℕ
origin_name b taken = option_map_or (λ checkout. version_name b checkout.origin) taken []

-- a selected version, or the view's checkout
abbrev pub picked_line : Base → List ℕ → List ℕ → ℕ → Picked → Bool → List ℕ
picked_line b v name e picked true = name ++ codes " checkedout from " ++ origin_name b (out b v e) ++ by_rule picked.line
picked_line b v name e picked false = at_version name (version_name b picked.row) ++ by_rule picked.line

-- the view's object at a path
abbrev pub held_object_line : List ℕ → Option ℕ → List ℕ
held_object_line name None = name
held_object_line name (Some id) = at_version name (decimal id) ++ codes " object"

-- a name with what stands there
abbrev pub name_line : Base → List ℕ → List ℕ → List ℕ → Seen → List ℕ
name_line b v directory name (Private row) = name ++ codes " private"
name_line b v directory name (Element e picked) = picked_line b v name e picked picked.out
name_line b v directory name (Unselected e) = name ++ codes " no version selected"
name_line b v directory name Nothing = held_object_line name (held_at (objects_held b) v (path_of_entry directory name))

-- `ls`: a line for each name of a directory
abbrev pub ls_text : Base → List ℕ → List ℕ → List ℕ
ls_text b v directory = concat (map (λ name. line (name_line b v directory name.0 name.1)) (names_in b v directory))

-- an object that the view holds, with the number of views that hold it
abbrev pub held_line : ReferencesByPath → List ℕ → Bool → List ℕ → ℕ → List ℕ
held_line objects_held v true path id = line (at_version path (decimal id) ++ codes " references "
    ++ decimal (count objects_held id))
held_line objects_held v false path id = []

-- a line for each object that the view holds, among these
abbrev pub held_lines : ReferencesByPath → List ℕ → ReferencesByPath → List ℕ
held_lines all v [] = []
held_lines all v (entry ∷ objects_held) = held_line all v (bytes_eq entry.0.0 v) entry.0.1 entry.1
    ++ held_lines all v objects_held

-- `lsdo`: a line for each object that the view holds
abbrev pub lsdo_text : Base → List ℕ → List ℕ
lsdo_text b v = held_lines (objects_held b) v (objects_held b)

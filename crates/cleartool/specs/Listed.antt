-- The names of a directory, and the line of each.
use Rattle.std.specs.Prelude.{◌≡◌, ℕ, Bool, true, ◌&&◌, Option, Some, None, Result, Ok, Err, List, []}
use Rattle.cc_names.specs.Formed.{IsBelowRoot}
use Rattle.cc_names.specs.Paths.{last_of, parent_of}
use Rattle.cc_names.specs.References.{held_at}
use Rattle.cc_names.specs.Versions.{kind_of}
use Rattle.cc_names.specs.declared.memory.Or.{Or}
use Rattle.cc_names.specs.declared.memory.Or.TheVariants.{NoMemory, Is}
use Rattle.cc_names.specs.declared.names.NameFault.{NameFault}
use Rattle.cc_names.specs.declared.refusals.Refusal.{Refusal}
use Rattle.cc_names.specs.declared.rows.Kind.TheVariants.{Directory}
use Rattle.cc_names.specs.declared.selection.Picked.{Picked}
use Rattle.cc_names.specs.declared.selection.Seen.{Seen}
use Rattle.cc_names.specs.declared.selection.Seen.TheVariants.{Element, Nothing}
use Rattle.base_model.specs.Changes.{objects_held, tree}
use Rattle.base_model.specs.Closures.{is_path_among}
use Rattle.base_model.specs.Rows.{Base}
use Rattle.base_model.specs.Seen.{at}
use Rattle.legal_history.specs.Queries.DirectoryTexts.{name_line, held_object_line}
use Rattle.legal_history.specs.Queries.QueryLines.{ls_tests, answers_with}
use Rattle.legal_history.specs.Queries.VersionNames.{line}
use Rattle.view_lookup.specs.GivenNames.{is_name, was_named}
use Rattle.cleartool.specs.Owned.{was_given}

-- the line of a name with what stands there
abbrev pub seen_line : Base → List ℕ → List ℕ → List ℕ → Seen → List ℕ
seen_line b v directory name seen = line (name_line b v directory name seen)

-- the line of a name with the object at its path, where the view holds one
abbrev pub object_line_where : List ℕ → Option ℕ → List ℕ
object_line_where name None = []
object_line_where name (Some id) = line (held_object_line name (Some id))

-- the line of a name, where something stands there or the view holds an object there
abbrev pub seen_line_where : Base → List ℕ → List ℕ → List ℕ → Seen → Option ℕ → List ℕ
seen_line_where b v directory name Nothing None = []
seen_line_where b v directory name seen object = seen_line b v directory name seen

-- the same by the path of the name in the directory, which may be too long to be seen
abbrev pub line_at : Base → List ℕ → List ℕ → List ℕ → Result (List ℕ) NameFault → List ℕ
line_at b v directory name (Ok path) = seen_line_where b v directory name (at b v path) (held_at (objects_held b) v path)
line_at b v directory name (Err fault) = []

-- whether a path is that of a name in a directory
abbrev pub lies_in : List ℕ → List ℕ → List ℕ → Bool
lies_in directory name path = is_name directory (parent_of path) && is_name name (last_of path)

-- the view sees the directory at the path, which is this element
pub record SeesDirectory (b : Base) (v directory : List ℕ) (e : ℕ) : Type 0 where
  pub picked : Picked
  pub seen : at b v directory ≡ Element e picked
  pub kind : kind_of (tree b) e ≡ Some Directory

-- among names are all that rows gave in the directory, and those of the paths in it at which rows gave the view something
pub record HasNames (b : Base) (v directory : List ℕ) (e : ℕ) (names : List (List ℕ)) : Type 0 where
  pub given : (name : List ℕ) → was_named e name b ≡ true → is_path_among name names ≡ true
  pub own : (path name : List ℕ) → was_given b v path b ≡ true → lies_in directory name path ≡ true
      → is_path_among name names ≡ true
  pub below : (path : List ℕ) → was_given b v path b ≡ true → IsBelowRoot path

-- the directory that was found is one that the view sees, and its names are answered, whatever they are; where there is none the
-- refusal answers
abbrev pub FindsDirectory : Base → List ℕ → List ℕ → Result ℕ (Or Refusal) → Type 0
FindsDirectory b v path (Ok e) = SeesDirectory b v path e × ((text : List ℕ)
    → answers_with (ls_tests b v path) text ≡ Ok text)
FindsDirectory b v path (Err (Is refusal)) = (text : List ℕ) → answers_with (ls_tests b v path) text ≡ Err refusal
FindsDirectory b v path (Err NoMemory) = Unit {0}

-- The conditions under which a row fits a base, each a test of its own.
use Rattle.std.specs.Prelude.{ℕ, Bool, true, false, not, ◌&&◌, ◌||◌, ◌==◌, Option, Some, None, is_some, is_none, List, [], ◌∷◌}
use Rattle.std.specs.Prelude.{codes, option_and_then}
use Rattle.std.specs.Option.{option_or}
use Rattle.cc_names.specs.Branches.{branch_named, branch_of_version}
use Rattle.cc_names.specs.Labels.{holder}
use Rattle.cc_names.specs.References.{is_held}
use Rattle.cc_names.specs.Versions.{kind_of}
use Rattle.cc_names.specs.declared.rows.Kind.{Kind}
use Rattle.cc_names.specs.declared.rows.Kind.TheVariants.{File, Directory}
use Rattle.cc_names.specs.declared.rows.TypeKind.{TypeKind}
use Rattle.cc_names.specs.declared.rows.TypeKind.TheVariants as type_kinds
use Rattle.cc_names.specs.declared.rows.Placed.{Placed}
use Rattle.cc_names.specs.declared.rows.ReadOf.{ReadOf}
use Rattle.cc_names.specs.declared.rows.Deed.{Deed}
use Rattle.cc_names.specs.declared.rows.Deed.TheVariants as deeds
use Rattle.base_model.specs.Rows.{Base, size, deed_at, only_where}
use Rattle.base_model.specs.Catalogs.{element_named, own_of}
use Rattle.base_model.specs.Changes.{tree, labels, objects_held, live_row, kind_of_type, targets_of}
use Rattle.base_model.specs.Checkouts.{reserver, other_reserver, branch_of, is_latest}
use Rattle.base_model.specs.Closures.{is_path_among, is_version_of}
use Rattle.base_model.specs.Views.{Checkout, view_row, out}

-- whether the view exists
abbrev pub exists : Base → List ℕ → Bool
exists b v = is_some (view_row b v)

-- whether the view has the element out
abbrev pub has_out : Base → List ℕ → ℕ → Bool
has_out b v e = is_some (out b v e)

-- whether there is an element, and it is a file
abbrev pub is_file_kind : Option Kind → Bool
is_file_kind (Some File) = true
is_file_kind _ = false

-- whether there is an element, and it is a directory
abbrev pub is_directory_kind : Option Kind → Bool
is_directory_kind (Some Directory) = true
is_directory_kind _ = false

-- whether an element is a file
abbrev pub is_file : Base → ℕ → Bool
is_file b e = is_file_kind (kind_of (tree b) e)

-- whether an element is a directory
abbrev pub is_directory : Base → ℕ → Bool
is_directory b e = is_directory_kind (kind_of (tree b) e)

-- whether the catalog of the view's checkout of a directory has the name
abbrev pub has_name : Base → List ℕ → ℕ → List ℕ → Bool
has_name b v d name = is_some (element_named name (own_of b v d))

-- whether the view has checked out the element that the catalog of its checkout of a directory names so
abbrev pub has_out_by_name : Base → List ℕ → ℕ → List ℕ → Bool
has_out_by_name b v d name = is_some (option_and_then (out b v) (element_named name (own_of b v d)))

-- whether nobody holds a reserved checkout on the branch of a version
abbrev pub is_unreserved : Base → ℕ → Bool
is_unreserved b version = is_none (option_and_then (reserver b) (branch_of_version (tree b) version))

-- whether a checkout may become a version: no other view holds its branch, and its origin is the branch's latest version
abbrev pub may_check_in : Base → List ℕ → Option Checkout → Bool
may_check_in b v None = false
may_check_in b v (Some checkout) =
    is_none (option_and_then (other_reserver b v) (branch_of b checkout)) && is_latest b checkout.origin

-- whether there is a type, and it is one of labels
abbrev pub is_label_kind : Option TypeKind → Bool
is_label_kind (Some type_kinds.Label) = true
is_label_kind _ = false

-- whether there is a type, and it is one of branches
abbrev pub is_branch_kind : Option TypeKind → Bool
is_branch_kind (Some type_kinds.Branch) = true
is_branch_kind _ = false

-- whether a label type has the name
abbrev pub is_label_type : Base → List ℕ → Bool
is_label_type b name = is_label_kind (kind_of_type b name)

-- whether a branch type has the name; `main` is none
abbrev pub is_branch_type : Base → List ℕ → Bool
is_branch_type b name = is_branch_kind (kind_of_type b name)

-- names that no type may have: `main`, `LATEST` and `CHECKEDOUT`
abbrev pub is_reserved_name : List ℕ → Bool
is_reserved_name name = is_path_among name (codes "main" ∷ codes "LATEST" ∷ codes "CHECKEDOUT" ∷ [])

-- whether a type of either kind has the name, or none may have it
abbrev pub is_type_taken : Base → List ℕ → Bool
is_type_taken b name = is_some (kind_of_type b name) || is_reserved_name name

-- whether the element has a branch of the type
abbrev pub has_branch : Base → ℕ → List ℕ → Bool
has_branch b e name = is_some (branch_named (tree b) e name)

-- whether the label stands on a version of the element
abbrev pub has_label : Base → List ℕ → ℕ → Bool
has_label b label e = is_some (holder (labels b) label e)

-- the element of which a row made a text
abbrev pub element_of_text : Base → ℕ → Deed → Option ℕ
element_of_text b r (deeds.Mkelem v directory name kind out) = Some r
element_of_text b r (deeds.Checkout v e origin reserved) = Some e
element_of_text b r (deeds.Branch v e origin name out) = Some e
element_of_text b r (deeds.Save v e text) = Some e
element_of_text b r (deeds.Checkin v e) = Some e
element_of_text b r deed = None

-- whether a deed puts a private file
abbrev pub is_put : Deed → Bool
is_put (deeds.Put v path text) = true
is_put deed = false

-- whether there is a file element
abbrev pub is_some_file : Base → Option ℕ → Bool
is_some_file b None = false
is_some_file b (Some e) = is_file b e

-- whether the deed of row r made the text of a file
abbrev pub makes_file_text : Base → ℕ → Option Deed → Bool
makes_file_text b r None = false
makes_file_text b r (Some deed) = is_put deed || is_some_file b (element_of_text b r deed)

-- whether an entry says that its path was absent, or names the text of a file or an output at its path
abbrev pub is_entry : Base → ReadOf → Bool
is_entry b entry =
    (entry.row == 0) || makes_file_text b entry.row (deed_at b entry.row) || is_path_among entry.path (targets_of b entry.row)

-- whether an object is live and no view holds it
abbrev pub may_be_scrubbed : Base → ℕ → Bool
may_be_scrubbed b id = is_some (live_row b id) && not (is_held (objects_held b) id)

-- whether a label is placed on a version of its element
abbrev pub is_placed : Base → Placed → Bool
is_placed b placed = is_version_of b placed.element placed.version

-- whether a deed makes the arrow from one version of an element to another
abbrev pub is_arrow : ℕ → ℕ → ℕ → Deed → Bool
is_arrow e tail head (deeds.Arrow element one two) = (element == e) && (one == tail) && (two == head)
is_arrow e tail head deed = false

-- the row of the arrow between two versions of an element
abbrev pub arrow_row : Base → ℕ → ℕ → ℕ → Option ℕ
arrow_row [] e tail head = None
arrow_row (row ∷ older) e tail head =
    option_or (only_where (is_arrow e tail head row.deed) (Some (size older))) (arrow_row older e tail head)

-- The names by which texts speak of versions and of rows.
use Rattle.std.specs.Prelude.{ℕ, Option, Some, None, List, [], ◌∷◌, ◌++◌, codes, decimal}
use Rattle.std.specs.Option.{option_map_or}
use Rattle.cc_names.specs.Branches.{names_of_branch}
use Rattle.cc_names.specs.Versions.{version_id}
use Rattle.cc_names.specs.declared.changes.VersionId.{VersionId}
use Rattle.cc_names.specs.declared.rows.Deed.{Deed}
use Rattle.cc_names.specs.declared.rows.Deed.TheVariants as deeds
use Rattle.base_model.specs.Rows.{Base, deed_at}
use Rattle.base_model.specs.Changes.{tree}

-- a line of a text, with its newline
abbrev pub line : List ℕ → List ℕ
line text = text ++ 10 ∷ []

-- names, each with a `/` before it
abbrev pub behind_slashes : List (List ℕ) → List ℕ
behind_slashes [] = []
behind_slashes (name ∷ names) = 47 ∷ (name ++ behind_slashes names)

-- the path of a branch, as `/main/fix`
abbrev pub branch_name : Base → ℕ → List ℕ
branch_name b branch = behind_slashes (codes "main" ∷ names_of_branch (tree b) branch)

-- the name of a version by its id, as `/main/fix/1`
abbrev pub name_of_version_id : Base → VersionId → List ℕ
name_of_version_id b version_id = branch_name b version_id.branch ++ 47 ∷ decimal version_id.number

-- the name of the version that a row made; only rows of versions are asked for theirs
abbrev pub version_name : Base → ℕ → List ℕ
version_name b row = option_map_or (name_of_version_id b) (version_id (tree b) row) []

-- a path and a version of the element there
abbrev pub at_version : List ℕ → List ℕ → List ℕ
at_version path version = path ++ 64 ∷ 64 ∷ version

-- a path, a word and a row
abbrev pub by_word : List ℕ → List ℕ → ℕ → List ℕ
by_word path word row = path ++ 32 ∷ (word ++ 32 ∷ decimal row)

-- the name at a path of a row that made no version
abbrev pub other_row_name : List ℕ → ℕ → Option Deed → List ℕ
other_row_name path row (Some (deeds.Put v p text)) = by_word path (codes "private") row
other_row_name path row (Some (deeds.Publish v targets script entries outputs)) = by_word path (codes "object") row
other_row_name path row _ = by_word path (codes "checkedout") row

-- the name at a path of a row that made a version, where it did
abbrev pub name_by_version_id : Base → List ℕ → ℕ → Option VersionId → List ℕ
name_by_version_id b path row (Some version_id) = at_version path (name_of_version_id b version_id)
name_by_version_id b path row None = other_row_name path row (deed_at b row)

-- The name of a row at a path: by the version that it made, else as a checkout, a private file or an object.
abbrev pub row_name : Base → List ℕ → ℕ → List ℕ
row_name b path row = name_by_version_id b path row (version_id (tree b) row)

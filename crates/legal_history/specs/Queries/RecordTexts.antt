-- The texts of records: what an object was made from, how two records differ, and whether a view covers one.
use Rattle.std.specs.Prelude.{ℕ, zero, suc, Bool, true, false, Option, Some, None, List, [], ◌∷◌, ◌++◌, codes, map, bytes_eq}
use Rattle.std.specs.List.{concat}
use Rattle.std.specs.Ordering.{nat_cmp}
use Rattle.std.specs.Cmp.Lexicographic.{slice_cmp}
use Rattle.std.specs.FinMap.Entries.{put}
use Rattle.cc_names.specs.Cuts.{lines_of}
use Rattle.cc_names.specs.Versions.{is_number}
use Rattle.cc_names.specs.declared.rows.Deed.{Deed}
use Rattle.cc_names.specs.declared.rows.Deed.TheVariants as deeds
use Rattle.cc_names.specs.declared.rows.ReadOf.{ReadOf}
use Rattle.base_model.specs.Rows.{Base, deed_at}
use Rattle.base_model.specs.Changes.{targets_of}
use Rattle.base_model.specs.Objects.{are_same_paths, record_of, row_in}
use Rattle.legal_history.specs.Queries.VersionNames.{line, row_name}

-- the script of an object's record; no other row is asked for one
abbrev pub script_of_deed : Option Deed → List ℕ
script_of_deed (Some (deeds.Publish v targets script entries outputs)) = script
script_of_deed _ = []

-- the script of an object's record
abbrev pub recorded_script : Base → ℕ → List ℕ
recorded_script b id = script_of_deed (deed_at b id)

-- one read of a record; row 0 says that nothing was there
abbrev pub line_of_read : Base → List ℕ → ℕ → List ℕ
line_of_read b path zero = line (codes "absent " ++ path)
line_of_read b path (suc row) = line (codes "read " ++ row_name b path (suc row))

-- `catcr`: the record of an object
abbrev pub catcr_text : Base → ℕ → List ℕ
catcr_text b id =
    concat (map (λ target. line (codes "target " ++ target)) (targets_of b id))
    ++ concat (map (λ text. line (codes "script " ++ text)) (lines_of (recorded_script b id)))
    ++ concat (map (λ entry. line_of_read b entry.path entry.row) (record_of b id))

-- paths in byte order, each with itself
abbrev pub Paths : Type 0
Paths = List (List ℕ × List ℕ)

-- the paths of a record, put among others
abbrev pub with_paths : List ReadOf → Paths → Paths
with_paths [] paths = paths
with_paths (entry ∷ entries) paths = put (slice_cmp nat_cmp) entry.path entry.path (with_paths entries paths)

-- a path on one side of a difference
abbrev pub side_name : Base → List ℕ → ℕ → List ℕ
side_name b path zero = path ++ codes " absent"
side_name b path (suc row) = row_name b path (suc row)

-- one side of a difference, where the record has the path
abbrev pub side_line : Base → List ℕ → List ℕ → Option ℕ → List ℕ
side_line b mark path None = []
side_line b mark path (Some row) = line (mark ++ side_name b path row)

-- whether two records have the same at a path
abbrev pub is_same_row : Option ℕ → Option ℕ → Bool
is_same_row None None = true
is_same_row (Some one) two = is_number one two
is_same_row None (Some two) = false

-- text where a test does not hold
abbrev pub unless_same : Bool → List ℕ → List ℕ
unless_same true text = []
unless_same false text = text

-- a path at which two records differ, with what each has there
abbrev pub path_lines : Base → List ReadOf → List ReadOf → List ℕ → List ℕ
path_lines b one two path =
    unless_same (is_same_row (row_in one path) (row_in two path))
    (side_line b (codes "< ") path (row_in one path) ++ side_line b (codes "> ") path (row_in two path))

-- `diffcr`: how the records of two objects differ
abbrev pub diffcr_text : Base → ℕ → ℕ → List ℕ
diffcr_text b one two =
    unless_same (are_same_paths (targets_of b one) (targets_of b two)) (line (codes "targets differ"))
    ++ unless_same (bytes_eq (recorded_script b one) (recorded_script b two)) (line (codes "script differs"))
    ++ concat (map (λ path. path_lines b (record_of b one) (record_of b two) path.0)
    (with_paths (record_of b one) (with_paths (record_of b two) [])))

-- `covers`: whether what a view sees covers a record
abbrev pub covers_text : Option (List ℕ) → List ℕ
covers_text None = line (codes "covered")
covers_text (Some path) = line (codes "not covered " ++ path)

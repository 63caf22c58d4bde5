-- The texts that tell of one element: what is selected of it, and its tree of versions.
use Rattle.std.specs.Prelude.{ℕ, zero, suc, Bool, true, false, ◌==◌, Option, Some, None, List, [], ◌∷◌, ◌++◌, codes, map, filter}
use Rattle.std.specs.Prelude.{reverse, decimal}
use Rattle.std.specs.List.{concat}
use Rattle.std.specs.Ordering.{nat_cmp}
use Rattle.std.specs.Cmp.Lexicographic.{slice_cmp}
use Rattle.std.specs.FinMap.Entries.{put}
use Rattle.cc_names.specs.Labels.{holder}
use Rattle.cc_names.specs.Versions.{Version, versions_on, is_number}
use Rattle.cc_names.specs.declared.changes.TreeChange.{TreeChange}
use Rattle.cc_names.specs.declared.changes.TreeChange.TheVariants.{BranchMade}
use Rattle.cc_names.specs.declared.rows.Deed.{Deed}
use Rattle.cc_names.specs.declared.rows.Deed.TheVariants as deeds
use Rattle.cc_names.specs.declared.rows.TypeKind.TheVariants as type_kinds
use Rattle.cc_names.specs.declared.selection.Picked.{Picked}
use Rattle.base_model.specs.Rows.{Base, size, only_where}
use Rattle.base_model.specs.Changes.{tree, labels}
use Rattle.base_model.specs.Conditions.{is_directory}
use Rattle.legal_history.specs.Queries.DirectoryTexts.{origin_name}
use Rattle.legal_history.specs.Queries.VersionNames.{line, branch_name, version_name, at_version}
use Rattle.base_model.specs.Views.{out}

-- names in byte order, each with itself
abbrev pub NameSet : Type 0
NameSet = List (List ℕ × List ℕ)

-- one more label type
abbrev pub with_label_type : Deed → NameSet → NameSet
with_label_type (deeds.Mktype type_kinds.Label name) names = put (slice_cmp nat_cmp) name name names
with_label_type deed names = names

-- the label types, in byte order
abbrev pub label_types : Base → NameSet
label_types [] = []
label_types (row ∷ older) = with_label_type row.deed (label_types older)

-- the key of an entry
abbrev pub entry_key : List ℕ × List ℕ → List ℕ
entry_key entry = entry.0

-- the labels that stand on a version of the element, in byte order
abbrev pub labels_on : Base → ℕ → ℕ → List (List ℕ)
labels_on b e version = filter (λ label. is_number version (holder (labels b) label e)) (map entry_key (label_types b))

-- the kind of an element
abbrev pub kind_word : Bool → List ℕ
kind_word true = codes "directory"
kind_word false = codes "file"

-- the selected version with its labels, or the view's checkout
abbrev pub selected_lines : Base → List ℕ → ℕ → Picked → Bool → List ℕ
selected_lines b v e picked true = line (codes "checkedout from " ++ origin_name b (out b v e))
selected_lines b v e picked false =
    line (codes "version " ++ version_name b picked.row) ++ concat (map (λ label. line (codes "label " ++ label))
    (labels_on b e picked.row))

-- `describe`: the element, its kind, and what is selected of it
abbrev pub describe_text : Base → List ℕ → ℕ → Picked → List ℕ
describe_text b v e picked =
    line (codes "element " ++ decimal e) ++ line (codes "kind " ++ kind_word (is_directory b e))
    ++ selected_lines b v e picked picked.out

-- words with a comma between each two
abbrev pub with_commas : List (List ℕ) → List ℕ
with_commas [] = []
with_commas (word ∷ []) = word
with_commas (word ∷ next ∷ words) = word ++ codes ", " ++ with_commas (next ∷ words)

-- ` (L, M)`, where there are labels
abbrev pub in_brackets : List (List ℕ) → List ℕ
in_brackets [] = []
in_brackets (label ∷ labels) = codes " (" ++ with_commas (label ∷ labels) ++ codes ")"

-- the branch that a change made, where it leaves this version
abbrev pub branch_leaving : ℕ → TreeChange → Option ℕ
branch_leaving version (BranchMade row moment element origin name) = only_where (origin == version) (Some row)
branch_leaving version change = None

-- one more number, where there is one
abbrev pub with_some : Option ℕ → List ℕ → List ℕ
with_some None rows = rows
with_some (Some row) rows = row ∷ rows

-- the branches that leave a version, newest first
abbrev pub branches_leaving : ℕ → List TreeChange → List ℕ
branches_leaving version [] = []
branches_leaving version (change ∷ older) = with_some (branch_leaving version change) (branches_leaving version older)

-- a version with its labels, and the branches that leave it
abbrev pub version_lines : Base → List ℕ → ℕ → (ℕ → List ℕ) → Version → List ℕ
version_lines b path e branch_lines version =
    line (at_version path (version_name b version.row) ++ in_brackets (labels_on b e version.row))
    ++ concat (map branch_lines (reverse (branches_leaving version.row (tree b))))

-- a branch and its versions, oldest first; no branch lies deeper than there are rows
abbrev pub branch_lines : ℕ → Base → List ℕ → ℕ → ℕ → List ℕ
branch_lines zero b path e branch = []
branch_lines (suc depth) b path e branch =
    line (at_version path (branch_name b branch))
    ++ concat (map (version_lines b path e (branch_lines depth b path e)) (reverse (versions_on (tree b) branch)))

-- `lsvtree`: the element's tree of versions
abbrev pub lsvtree_text : Base → List ℕ → ℕ → List ℕ
lsvtree_text b path e = branch_lines (size b) b path e e

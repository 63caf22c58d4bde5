-- Which versions have reached which, by the trees and by merge arrows; and what is left to be merged.
use Rattle.std.specs.Prelude.{ℕ, zero, suc, Bool, true, false, not, ◌&&◌, ◌||◌, ◌==◌, ◌≡◌, Option, Some, None, List, [], ◌∷◌}
use Rattle.std.specs.Prelude.{◌++◌, codes, map, option_and_then, bytes_eq}
use Rattle.std.specs.List.{concat, list_any}
use Rattle.std.specs.Option.{option_or, option_map_or}
use Rattle.std.specs.Ordering.{nat_cmp}
use Rattle.std.specs.Cmp.Lexicographic.{slice_cmp}
use Rattle.std.specs.FinMap.Entries.{put}
use Rattle.cc_names.specs.Branches.{branch_named, origin_by}
use Rattle.cc_names.specs.Versions.{is_number, latest, version_of_number, put_if, row_of_change, version_at}
use Rattle.cc_names.specs.declared.changes.TreeChange.{TreeChange}
use Rattle.cc_names.specs.declared.rows.Deed.{Deed}
use Rattle.cc_names.specs.declared.rows.Deed.TheVariants as deeds
use Rattle.cc_names.specs.declared.selection.Picked.{Picked}
use Rattle.cc_names.specs.declared.selection.Seen.{Seen}
use Rattle.cc_names.specs.declared.selection.Seen.TheVariants.{Element}
use Rattle.base_model.specs.Rows.{Base, size, only_where}
use Rattle.base_model.specs.Catalogs.{Catalog}
use Rattle.base_model.specs.Changes.{tree}
use Rattle.legal_history.specs.Queries.DirectoryTexts.{path_of_entry, catalog_or_none}
use Rattle.base_model.specs.Seen.{at, entries_of}
use Rattle.legal_history.specs.Queries.VersionNames.{line, version_name, at_version}
use Rattle.base_model.specs.Views.{Checkout, out}

-- whether one version is the successor of another on its branch
abbrev pub is_successor : Base → ℕ → ℕ → Bool
is_successor b one two =
    is_number two (option_and_then (λ version. version_of_number (tree b) version.branch (suc version.number))
    (version_at (tree b) one))

-- whether a version begins a branch that leaves another one
abbrev pub is_branch_from : List TreeChange → ℕ → ℕ → Bool
is_branch_from changes one two = list_any (λ change. (row_of_change change == two) && is_number one (origin_by change)) changes

-- whether an arrow leads from one version to another
abbrev pub leads : ℕ → ℕ → Deed → Bool
leads one two (deeds.Arrow e tail head) = (tail == one) && (head == two)
leads one two deed = false

-- whether some row made an arrow from one version to another
abbrev pub is_arrow_between : Base → ℕ → ℕ → Bool
is_arrow_between b one two = list_any (λ row. leads one two row.deed) b

-- whether one version directly follows another: as its successor, as the begin of a branch, or by an arrow
abbrev pub follows : Base → ℕ → ℕ → Bool
follows b one two = is_successor b one two || is_branch_from (tree b) one two || is_arrow_between b one two

-- One version reaches another where a walk leads there, each version of which follows the one before.
pub data Reaches (b : Base) : ℕ → ℕ → Type 0 where
  Itself : {a : ℕ} → Reaches b a a
  Onward : {a c d : ℕ} → follows b a c ≡ true → Reaches b c d → Reaches b a d

-- a number among numbers
abbrev pub is_in : ℕ → List ℕ → Bool
is_in n ns = list_any (λ m. m == n) ns

-- a number put before others, where it is not among versions and follows one of them
abbrev pub with_follower : Base → List ℕ → ℕ → List ℕ → List ℕ
with_follower b versions n found = put_if (not (is_in n versions) && list_any (λ version. follows b version n) versions) n found

-- those of some rows, row 0 with them, that are not among versions and follow one of them
abbrev pub followers : Base → List ℕ → Base → List ℕ
followers b versions [] = with_follower b versions 0 []
followers b versions (row ∷ older) = with_follower b versions (size older) (followers b versions older)

-- versions with all that they reach in at most so many rounds of taking in followers
abbrev pub reached_within : ℕ → Base → List ℕ → List ℕ
reached_within zero b versions = versions
reached_within (suc rounds) b versions = reached_within rounds b (followers b versions b ++ versions)

-- whether one version reaches another; each round but the last adds some row, so there are at most as many as rows
abbrev pub reaches : Base → ℕ → ℕ → Bool
reaches b one two = is_in two (reached_within (size b) b (one ∷ []))

-- the element's branch of a type; `main` is named by the element
abbrev pub branch_of_type : Base → ℕ → List ℕ → Option ℕ
branch_of_type b e name = option_or (only_where (bytes_eq name (codes "main")) (Some e)) (branch_named (tree b) e name)

-- the last version on the element's branch of a type
abbrev pub merge_source : Base → ℕ → List ℕ → Option ℕ
merge_source b e name = option_and_then (λ branch. latest (tree b) branch None) (branch_of_type b e name)

-- The selected version, or the origin of the view's checkout. Where that is what is selected, the view has one, so no
-- other row is taken in its place.
abbrev pub merge_target : Bool → Picked → Option Checkout → ℕ
merge_target true picked taken = option_map_or (λ checkout. checkout.origin) taken picked.row
merge_target false picked taken = picked.row

-- the line of an element that is to be merged
abbrev pub merge_line : Base → List ℕ → ℕ → Option ℕ → List ℕ
merge_line b path target None = []
merge_line b path target (Some source) = elim (reaches b source target) [
  | true ↦ []
  | false ↦ line (at_version path (version_name b source) ++ codes " into " ++ at_version path (version_name b target))
]

-- paths with the elements that are selected there, in byte order
abbrev pub Elements : Type 0
Elements = List (List ℕ × Seen)

-- what is selected at a path, put among others where it is an element
abbrev pub with_element : List ℕ → Seen → Elements → Elements
with_element path (Element e picked) found = put (slice_cmp nat_cmp) path (Element e picked) found
with_element path seen found = found

-- what is found below each name of a catalog, put among others
abbrev pub in_catalog : (List ℕ → Elements → Elements) → List ℕ → Catalog → Elements → Elements
in_catalog below directory [] found = found
in_catalog below directory (entry ∷ catalog) found = below (path_of_entry directory entry.0)
    (in_catalog below directory catalog found)

-- the elements selected at a path and below it, put among others; no directory lies deeper than there are rows
abbrev pub elements_below : ℕ → Base → List ℕ → List ℕ → Elements → Elements
elements_below zero b v path found = found
elements_below (suc depth) b v path found =
    with_element path (at b v path)
    (in_catalog (elements_below depth b v) path (catalog_or_none (entries_of b v (at b v path))) found)

-- the line of a path, where its element is to be merged
abbrev pub found_line : Base → List ℕ → List ℕ → List ℕ → Seen → List ℕ
found_line b v name path (Element e picked) = merge_line b path (merge_target picked.out picked (out b v e))
    (merge_source b e name)
found_line b v name path seen = []

-- `findmerge`: the elements at a path and below it whose last version on a branch has not reached what the view selects
abbrev pub findmerge_text : Base → List ℕ → List ℕ → List ℕ → List ℕ
findmerge_text b v path name = concat (map (λ found. found_line b v name found.0 found.1) (elements_below (size b) b v path []))

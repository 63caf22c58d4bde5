-- The queries: the tests of each in their order, and its text, a line a query.
use Rattle.std.specs.Prelude.{ℕ, ◌||◌, is_none, Option, Some, None, Result, List, [], ◌∷◌, codes, unwrap_or, option_and_then}
use Rattle.std.specs.Prelude.{bytes_eq}
use Rattle.cc_names.specs.Paths.{root}
use Rattle.cc_names.specs.References.{held_at}
use Rattle.cc_names.specs.declared.commands.Query.{Query}
use Rattle.cc_names.specs.declared.commands.Query.TheVariants as queries
use Rattle.cc_names.specs.declared.commands.VersionName.{VersionName}
use Rattle.cc_names.specs.declared.refusals.Refusal.{Refusal}
use Rattle.cc_names.specs.declared.refusals.Refusal.TheVariants as refusals
use Rattle.cc_names.specs.declared.selection.Picked.{Picked}
use Rattle.cc_names.specs.declared.selection.Seen.{Seen}
use Rattle.cc_names.specs.declared.selection.Seen.TheVariants.{Element, Unselected, Nothing}
use Rattle.base_model.specs.Rows.{Base}
use Rattle.base_model.specs.Changes.{objects_held}
use Rattle.base_model.specs.Conditions.{is_branch_type}
use Rattle.legal_history.specs.Commands.Decisions.{first_refusal, past, unless_refused}
use Rattle.legal_history.specs.Queries.ElementTexts.{describe_text, lsvtree_text}
use Rattle.legal_history.specs.Commands.Found.{for_selected, for_object}
use Rattle.legal_history.specs.Queries.HistoryTexts.{lshistory_text}
use Rattle.legal_history.specs.Commands.LabelLines.{version_named}
use Rattle.legal_history.specs.Queries.DirectoryTexts.{ls_text, lsdo_text}
use Rattle.legal_history.specs.Queries.Merges.{findmerge_text}
use Rattle.legal_history.specs.Queries.RecordTexts.{catcr_text, diffcr_text, covers_text}
use Rattle.base_model.specs.Objects.{uncovered_path}
use Rattle.base_model.specs.Seen.{at, file_at}
use Rattle.legal_history.specs.Commands.Tests.{refused_where, refused_unless, needs_view, needs_selected, needs_directory}
use Rattle.legal_history.specs.Commands.Tests.{needs_no_directory, needs_element}
use Rattle.base_model.specs.Texts.{text}
use Rattle.base_model.specs.Views.{spec_text}

-- the text of a query, unless a test refuses
abbrev pub answers_with : List (Option Refusal) → List ℕ → Result (List ℕ) Refusal
answers_with tests text = unless_refused (first_refusal tests) text

-- `catcs V`: the view's config spec as it was set; a view that exists has one
abbrev pub catcs : Base → List ℕ → Result (List ℕ) Refusal
catcs b v = answers_with (needs_view b v ∷ []) (unwrap_or (spec_text b v) [])

-- `lsdo V`: the objects that the view holds
abbrev pub lsdo : Base → List ℕ → Result (List ℕ) Refusal
lsdo b v = answers_with (needs_view b v ∷ []) (lsdo_text b v)

-- the tests of `ls V [P]`
abbrev pub ls_tests : Base → List ℕ → List ℕ → List (Option Refusal)
ls_tests b v path =
    needs_view b v ∷ needs_selected path (at b v path) ∷ needs_directory b path (at b v path) ∷ []

-- `ls V [P]`: the names of a directory, of the root where none is named
abbrev pub ls : Base → List ℕ → Option (List ℕ) → Result (List ℕ) Refusal
ls b v path = answers_with (ls_tests b v (unwrap_or path root)) (ls_text b v (unwrap_or path root))

-- something is selected at the path; or nothing stands there, and the view holds an object
abbrev pub needs_text : Base → List ℕ → List ℕ → Seen → Option Refusal
needs_text b v path Nothing = refused_where (is_none (held_at (objects_held b) v path)) (refusals.NoPath path)
needs_text b v path seen = needs_selected path seen

-- the row that makes the text at a path, of a file or of the view's object
abbrev pub text_row : Base → List ℕ → List ℕ → Seen → Option ℕ
text_row b v path Nothing = held_at (objects_held b) v path
text_row b v path seen = file_at b v path

-- The text that a row made at a path. It is asked for after the tests of `cat` alone, which leave a row, and each makes
-- the text of a file or of an object there.
abbrev pub made_text_at : Base → List ℕ → Option ℕ → List ℕ
made_text_at b path row = unwrap_or (option_and_then (λ r. text b r path) row) []

-- the tests of `cat V P`
abbrev pub cat_tests : Base → List ℕ → List ℕ → Seen → List (Option Refusal)
cat_tests b v path seen = needs_view b v ∷ needs_text b v path seen ∷ needs_no_directory b path seen ∷ []

-- the version of an element that stands at a path, selected or not
abbrev pub version_seen : Base → Seen → VersionName → Option ℕ
version_seen b (Element e picked) name = version_named b e name
version_seen b (Unselected e) name = version_named b e name
version_seen b seen name = None

-- the tests of `cat V P@@VERSION`
abbrev pub cat_version_tests : Base → List ℕ → List ℕ → Seen → VersionName → List (Option Refusal)
cat_version_tests b v path seen name =
    needs_view b v ∷ refused_where (is_none (version_seen b seen name)) (refusals.NoPath path)
    ∷ needs_no_directory b path seen ∷ []

-- `cat V P` and `cat V P@@VERSION`: the text that the view sees there, or that of a version
abbrev pub cat : Base → List ℕ → List ℕ → Option VersionName → Result (List ℕ) Refusal
cat b v path None = answers_with (cat_tests b v path (at b v path)) (made_text_at b path (text_row b v path (at b v path)))
cat b v path (Some name) =
    answers_with (cat_version_tests b v path (at b v path) name) (made_text_at b path (version_seen b (at b v path) name))

-- what is answered of the element that the view selects at a path, and of what it picks of it
abbrev pub answers_of : Base → List ℕ → List ℕ → (ℕ → Picked → List ℕ) → Result (List ℕ) Refusal
answers_of b v path text = past (needs_view b v ∷ []) (for_selected path (at b v path) (λ e picked. answers_with [] (text e picked)))

-- `describe V P`: the element, its kind, what is selected of it, and its labels
abbrev pub describe : Base → List ℕ → List ℕ → Result (List ℕ) Refusal
describe b v path = answers_of b v path (describe_text b v)

-- `lsvtree V P`: the versions of the element, branch by branch
abbrev pub lsvtree : Base → List ℕ → List ℕ → Result (List ℕ) Refusal
lsvtree b v path = answers_of b v path (λ e picked. lsvtree_text b path e)

-- `lshistory V P`: what made the element, its branches and versions and moved its labels, newest first
abbrev pub lshistory : Base → List ℕ → List ℕ → Result (List ℕ) Refusal
lshistory b v path = answers_of b v path (λ e picked. lshistory_text b e)

-- what is answered of the object that the view holds at a path
abbrev pub answers_of_object : Base → List ℕ → List ℕ → (ℕ → List ℕ) → Result (List ℕ) Refusal
answers_of_object b v path text = for_object path (held_at (objects_held b) v path) (λ id. answers_with [] (text id))

-- `catcr V P`: the record of the view's object
abbrev pub catcr : Base → List ℕ → List ℕ → Result (List ℕ) Refusal
catcr b v path = past (needs_view b v ∷ []) (answers_of_object b v path (catcr_text b))

-- `diffcr V P W Q`: where the records of two objects differ
abbrev pub diffcr : Base → List ℕ → List ℕ → List ℕ → List ℕ → Result (List ℕ) Refusal
diffcr b v path w second =
    past (needs_view b v ∷ needs_view b w ∷ [])
    (for_object path (held_at (objects_held b) v path) (λ one. answers_of_object b w second (diffcr_text b one)))

-- `covers W V P`: whether view W sees each input of the object that V holds at P
abbrev pub covers : Base → List ℕ → List ℕ → List ℕ → Result (List ℕ) Refusal
covers b seer v path =
    past (needs_view b seer ∷ needs_view b v ∷ [])
    (answers_of_object b v path (λ id. covers_text (uncovered_path b seer id)))

-- `main`, or a branch type
abbrev pub needs_branch : Base → List ℕ → Option Refusal
needs_branch b name = refused_unless (bytes_eq name (codes "main") || is_branch_type b name) (refusals.NoType name)

-- the tests of `findmerge V P -fversion .../B/LATEST`
abbrev pub findmerge_tests : Base → List ℕ → List ℕ → List ℕ → Seen → List (Option Refusal)
findmerge_tests b v path name seen =
    needs_view b v ∷ needs_selected path seen ∷ needs_element path seen ∷ needs_branch b name ∷ []

-- `findmerge V P -fversion .../B/LATEST`: what is on the branch and has not reached the selected versions at the path and below
abbrev pub findmerge : Base → List ℕ → List ℕ → List ℕ → Result (List ℕ) Refusal
findmerge b v path name = answers_with (findmerge_tests b v path name (at b v path)) (findmerge_text b v path name)

-- What answers a query, by the base alone: its first refusal in the order of its tests, else its text.
abbrev pub query_answer : Base → Query → Result (List ℕ) Refusal
query_answer b (queries.Catcs v) = catcs b v
query_answer b (queries.Lsdo v) = lsdo b v
query_answer b (queries.Ls v path) = ls b v path
query_answer b (queries.Cat v path version) = cat b v path version
query_answer b (queries.Describe v path) = describe b v path
query_answer b (queries.Lsvtree v path) = lsvtree b v path
query_answer b (queries.Lshistory v path) = lshistory b v path
query_answer b (queries.Catcr v path) = catcr b v path
query_answer b (queries.Diffcr v path other second) = diffcr b v path other second
query_answer b (queries.Covers seer v path) = covers b seer v path
query_answer b (queries.Findmerge v path branch) = findmerge b v path branch

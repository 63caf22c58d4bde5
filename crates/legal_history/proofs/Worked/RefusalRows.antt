-- Refusals on the smallest bases, worked by hand from the order of each command's tests: beside each stands what is not refused.
use Rattle.std.proofs.Common.{◌≡◌, refl, ℕ, true, false, Some, None, Result, Ok, Err, List, [], ◌∷◌, ◌++◌}
use Rattle.std.specs.Prelude.{codes}
use Rattle.cc_names.specs.declared.commands.Change.{Change}
use Rattle.cc_names.specs.declared.commands.Change.TheVariants as changes
use Rattle.cc_names.specs.declared.commands.Query.{Query}
use Rattle.cc_names.specs.declared.commands.Query.TheVariants as queries
use Rattle.cc_names.specs.declared.refusals.Refusal.{Refusal}
use Rattle.cc_names.specs.declared.refusals.Refusal.TheVariants as refusals
use Rattle.cc_names.specs.declared.rows.Deed.{Deed}
use Rattle.cc_names.specs.declared.rows.Deed.TheVariants as deeds
use Rattle.cc_names.specs.declared.rows.Kind.TheVariants.{File, Directory}
use Rattle.cc_names.specs.declared.rows.Out.TheVariants as outs
use Rattle.cc_names.specs.declared.rows.TypeKind.TheVariants as type_kinds
use Rattle.base_model.specs.Fits.{is_base}
use Rattle.legal_history.specs.Commands.Decisions.{Decision, Makes, Scene, needs_room}
use Rattle.legal_history.specs.Commands.Lines.{change_decision}
use Rattle.legal_history.specs.Queries.QueryLines.{query_answer}
use Rattle.legal_history.specs.Queries.VersionNames.{line}
use Rattle.legal_history.specs.Worked.{base_of, tag}
use Rattle.legal_history.proofs.Worked.TwoViews.{v, hi, unit}

-- the names of two files and of a directory
abbrev a_file : List ℕ
a_file = codes "in"

abbrev another : List ℕ
another = codes "two"

abbrev a_directory : List ℕ
a_directory = codes "d"

abbrev root : List ℕ
root = codes "."

-- what is decided of a change, and what answers a query, on the base of these deeds, while no build is active
abbrev scene : List Deed → Scene
scene deeds = record { base = base_of deeds; active = []; moment = 1700000000 }

abbrev change : List Deed → Change → Result Decision Refusal
change deeds asked = change_decision (scene deeds) asked

abbrev query : List Deed → Query → Result (List ℕ) Refusal
query deeds asked = query_answer (base_of deeds) asked

-- a view; a view with a private file; and one that has the root out, and there a new file or a new directory
abbrev view : List Deed
view = deeds.Mkview v ∷ []

abbrev private : List Deed
private = view ++ deeds.Put v a_file hi ∷ []

abbrev out : List Deed
out = view ++ deeds.Checkout v 0 0 true ∷ []

abbrev file : List Deed
file = out ++ deeds.Mkelem v 0 a_file File true ∷ []

abbrev directory : List Deed
directory = out ++ deeds.Mkelem v 0 a_directory Directory true ∷ []

-- nothing stands at the path, or at its parent
no_path_to_cat : query view (queries.Cat v a_file None) ≡ Err (refusals.NoPath a_file)
no_path_to_cat = refl

no_parent_to_save : change view (changes.Save v (codes "d/in") hi) ≡ Err (refusals.NoPath a_directory)
no_parent_to_save = refl

no_private_file : change file (changes.Rm v a_file) ≡ Err (refusals.NoPath a_file)
no_private_file = refl

a_private_file_goes : change private (changes.Rm v a_file) ≡ Ok (Makes (deeds.Rm v a_file))
a_private_file_goes = refl

no_name_in_the_catalog : change out (changes.Rmname v a_file) ≡ Err (refusals.NoPath a_file)
no_name_in_the_catalog = refl

-- an element of which the view selects nothing is there for an uncheckout alone
abbrev unselected : List Deed
unselected = file ++ deeds.Setcs v (line (codes "element in -none") ++ line (codes "element * CHECKEDOUT")) ∷ []

nothing_selected : change unselected (changes.Checkout v false a_file) ≡ Err (refusals.NoPath a_file)
nothing_selected = refl

yet_it_is_given_up : change unselected (changes.Uncheckout v a_file) ≡ Ok (Makes (deeds.Uncheckout v 3))
yet_it_is_given_up = refl

-- a private file and a file element are no directories
a_private_file_is_no_directory : change private (changes.Save v (codes "in/x") hi) ≡ Err (refusals.NotDirectory a_file)
a_private_file_is_no_directory = refl

a_file_is_no_directory : change file (changes.Mkelem v false (codes "in/x")) ≡ Err (refusals.NotDirectory a_file)
a_file_is_no_directory = refl

a_file_is_not_listed : query file (queries.Ls v (Some a_file)) ≡ Err (refusals.NotDirectory a_file)
a_file_is_not_listed = refl

a_directory_takes_a_file : change directory (changes.Mkelem v false (codes "d/in"))
    ≡ Ok (Makes (deeds.Mkelem v 3 a_file File true))
a_directory_takes_a_file = refl

-- a name is taken by an element, by a private file and by an object that the view holds
taken_by_an_element : change file (changes.Mkdir v false a_file) ≡ Err (refusals.NameTaken a_file)
taken_by_an_element = refl

taken_by_a_private_file : change (private ++ deeds.Checkout v 0 0 true ∷ []) (changes.Mkelem v false a_file)
    ≡ Err (refusals.NameTaken a_file)
taken_by_a_private_file = refl

-- the view publishes an object that read nothing, whose rule echoes its text
abbrev object : List ℕ → Deed
object path = deeds.Publish v (path ∷ []) (line (codes "echo hi > " ++ path)) [] (hi ∷ [])

taken_by_an_object : change (out ++ object a_file ∷ []) (changes.Mkelem v false a_file) ≡ Err (refusals.NameTaken a_file)
taken_by_an_object = refl

taken_for_a_move : change (file ++ deeds.Mkelem v 0 another File true ∷ []) (changes.Mv v a_file another)
    ≡ Err (refusals.NameTaken another)
taken_for_a_move = refl

moved_to_a_free_name : change file (changes.Mv v a_file another) ≡ Ok (Makes (deeds.Mv v 0 a_file another))
moved_to_a_free_name = refl

-- a private file is no element
not_to_be_checked_out : change private (changes.Checkout v false a_file) ≡ Err (refusals.NotElement a_file)
not_to_be_checked_out = refl

not_to_be_checked_in : change private (changes.Checkin v false a_file) ≡ Err (refusals.NotElement a_file)
not_to_be_checked_in = refl

not_described : query private (queries.Describe v a_file) ≡ Err (refusals.NotElement a_file)
not_described = refl

-- row 3 made the checkout, and row 4 is a later save
abbrev saved : List Deed
saved = file ++ deeds.Save v 3 hi ∷ []

out_already : change saved (changes.Checkout v false a_file) ≡ Err (refusals.AlreadyOut 3)
out_already = refl

out_before_its_name_goes : change saved (changes.Rmname v a_file) ≡ Err (refusals.AlreadyOut 3)
out_before_its_name_goes = refl

-- tested before the type of a branch
out_before_it_branches : change saved (changes.Mkbranch v false (codes "fix") a_file) ≡ Err (refusals.AlreadyOut 3)
out_before_it_branches = refl

-- a branch of the root that row 3 made
abbrev branched : List Deed
branched = view ++ deeds.Mktype type_kinds.Branch (codes "fix") ∷ deeds.Branch v 0 0 (codes "fix") outs.No ∷ []

branched_is_a_base : is_base (base_of branched) ≡ true
branched_is_a_base = refl

a_second_branch_of_a_type : change branched (changes.Mkbranch v true (codes "fix") root) ≡ Err (refusals.BranchExists 3)
a_second_branch_of_a_type = refl

a_branch_of_another_type : change (branched ++ deeds.Mktype type_kinds.Branch (codes "two") ∷ [])
    (changes.Mkbranch v true (codes "two") root) ≡ Ok (Makes (deeds.Branch v 0 0 (codes "two") outs.No))
a_branch_of_another_type = refl

-- the label stands on the version of row 4, and row 7 is a newer one
abbrev labelled : List Deed
labelled =
    view ++ deeds.Mktype type_kinds.Label (codes "REL") ∷ deeds.Checkout v 0 0 true ∷ deeds.Checkin v 0
    ∷ deeds.Label (codes "REL") 0 4 ∷ []

abbrev newer : List Deed
newer = labelled ++ deeds.Checkout v 0 4 true ∷ deeds.Checkin v 0 ∷ []

newer_is_a_base : is_base (base_of newer) ≡ true
newer_is_a_base = refl

a_label_that_stands_elsewhere : change newer (changes.Mklabel v false (codes "REL") root) ≡ Err (refusals.LabelElsewhere 4)
a_label_that_stands_elsewhere = refl

it_is_replaced : change newer (changes.Mklabel v true (codes "REL") root) ≡ Ok (Makes (deeds.Label (codes "REL") 0 7))
it_is_replaced = refl

it_stands_on_that_version : change labelled (changes.Mklabel v false (codes "REL") root)
    ≡ Ok (Makes (deeds.Label (codes "REL") 0 4))
it_stands_on_that_version = refl

-- the view holds no object at the path
no_object_to_drop : change view (changes.Rmdo v a_file) ≡ Err (refusals.NoObject a_file)
no_object_to_drop = refl

no_record : query view (queries.Catcr v a_file) ≡ Err (refusals.NoObject a_file)
no_record = refl

no_second_record : query (view ++ object a_file ∷ []) (queries.Diffcr v a_file v another) ≡ Err (refusals.NoObject another)
no_second_record = refl

an_object_is_dropped : change (view ++ object a_file ∷ []) (changes.Rmdo v a_file) ≡ Ok (Makes (deeds.Drop v a_file))
an_object_is_dropped = refl

-- the row of the oldest checkout: of the root, and where that is in, of the file, whose later save does not count
a_view_with_checkouts : change saved (changes.Rmview v false) ≡ Err (refusals.HasCheckouts 2)
a_view_with_checkouts = refl

a_view_with_one_left : change (saved ++ deeds.Checkin v 0 ∷ []) (changes.Rmview v false) ≡ Err (refusals.HasCheckouts 3)
a_view_with_one_left = refl

a_view_goes_by_force : change saved (changes.Rmview v true) ≡ Ok (Makes (deeds.Rmview v))
a_view_goes_by_force = refl

-- a base without rows has row 0 alone, and 3,999,999 more fit; with a build of two units active, two fewer do
room : needs_room (scene []) 3999999 ≡ None
room = refl

no_room : needs_room (scene []) 4000000 ≡ Some (refusals.Full 1)
no_room = refl

abbrev building : Scene
building = record {
  base = base_of view;
  active = (
    1,
    record {
      tag = tag 1 1 2;
      view = v;
      rows = 2;
      own_only = false;
      rebuild = false;
      units = unit ∷ unit ∷ [];
      comes = [];
      faulted = false;
    },
  ) ∷ [];
  moment = 1700000000;
}

room_beside_a_build : needs_room building 3999996 ≡ None
room_beside_a_build = refl

no_room_beside_a_build : needs_room building 3999997 ≡ Some (refusals.Full 4)
no_room_beside_a_build = refl

-- a directory has no text
a_directory_is_not_saved : change directory (changes.Save v a_directory hi) ≡ Err (refusals.IsDirectory a_directory)
a_directory_is_not_saved = refl

a_directory_is_not_shown : query directory (queries.Cat v a_directory None) ≡ Err (refusals.IsDirectory a_directory)
a_directory_is_not_shown = refl

the_root_is_not_shown : query view (queries.Cat v root None) ≡ Err (refusals.IsDirectory root)
the_root_is_not_shown = refl

-- The rows that commands make which build nothing.
use Rattle.std.proofs.Common.{◌≡◌, ℕ, Bool, not, Option, Some, None, Result, Ok, List, [], ◌∷◌, refl, subst}
use Rattle.cc_names.specs.References.{held_at}
use Rattle.cc_names.specs.declared.commands.Change.{Change}
use Rattle.cc_names.specs.declared.commands.Change.TheVariants as changes
use Rattle.cc_names.specs.declared.commands.VersionName.{VersionName}
use Rattle.cc_names.specs.declared.refusals.Refusal.{Refusal}
use Rattle.cc_names.specs.declared.rows.Deed.{Deed}
use Rattle.cc_names.specs.declared.rows.Deed.TheVariants as deeds
use Rattle.cc_names.specs.declared.rows.Kind.{Kind}
use Rattle.cc_names.specs.declared.rows.Kind.TheVariants.{File, Directory}
use Rattle.cc_names.specs.declared.rows.Out.{Out}
use Rattle.cc_names.specs.declared.rows.Placed.{Placed}
use Rattle.cc_names.specs.declared.rows.TypeKind.{TypeKind}
use Rattle.cc_names.specs.declared.rows.TypeKind.TheVariants as type_kinds
use Rattle.cc_names.specs.declared.selection.Picked.{Picked}
use Rattle.cc_names.specs.declared.selection.Seen.{Seen}
use Rattle.cc_names.specs.declared.selection.Seen.TheVariants.{Private, Element, Unselected, Nothing}
use Rattle.base_model.specs.Changes.{objects_held}
use Rattle.base_model.specs.Seen.{at}
use Rattle.legal_history.specs.Commands.CheckoutLines.{branch_by, checkin_of, checkin_tests, checkout_deed, checkout_of}
use Rattle.legal_history.specs.Commands.CheckoutLines.{checkout_tests, deciding_rule, mkbranch_of, mkbranch_tests, out_unless}
use Rattle.legal_history.specs.Commands.CheckoutLines.{uncheckout_of}
use Rattle.legal_history.specs.Commands.CheckoutTests.{needs_out}
use Rattle.legal_history.specs.Commands.Decisions.{Scene, Decision, Makes, past, unless_refused}
use Rattle.legal_history.specs.Commands.DirectoryLines.{mkelem_in, mv_in, mv_tests, rmname_in, rmname_tests}
use Rattle.legal_history.specs.Commands.FileLines.{last_name, save_deed}
use Rattle.legal_history.specs.Commands.Found.{for_element, for_object, for_selected}
use Rattle.legal_history.specs.Commands.LabelLines.{labels_or_nothing, mkarrow_from, mkarrow_of, mkarrow_tests}
use Rattle.legal_history.specs.Commands.LabelLines.{mklabel_config_of, mklabel_config_tests, mklabel_of, mklabel_tests}
use Rattle.legal_history.specs.Commands.LabelLines.{rmlabel_of, rmlabel_tests, version_named}
use Rattle.base_model.specs.Closures.{placed_by}
use Rattle.legal_history.specs.Commands.Lines.{change_decision}
use Rattle.legal_history.specs.Commands.ObjectLines.{due_objects, scrub_of}
use Rattle.legal_history.specs.Commands.Tests.{needs_free_path, needs_idle, needs_view}
use Rattle.base_model.specs.Views.{out}
use Rattle.legal_history.proofs.Decisions.Handed.{IfDecided, answer_is, change_is, element_is, object_is, past_is, row_is}
use Rattle.legal_history.proofs.Decisions.Handed.{selected_is, version_is}
use Rattle.base_core.specs.Calls.Acting.{FinishesCommand}

-- a decision that was not refused makes its deed
same_deed : (refused : Option Refusal) (deed made : Deed) → unless_refused refused (Makes deed) ≡ Ok (Makes made) → deed ≡ made
same_deed None deed made e = cc
same_deed (Some refusal) deed made e = absurd (cc)

finishes_mkview : (v : List ℕ) → FinishesCommand (deeds.Mkview v)
finishes_mkview v = record {
  reply = λ b. refl;
  done = λ done lane. refl;
  active = λ b active lane. refl;
  made = λ s row made. made;
}

finishes_rmview : (v : List ℕ) → FinishesCommand (deeds.Rmview v)
finishes_rmview v = record {
  reply = λ b. refl;
  done = λ done lane. refl;
  active = λ b active lane. refl;
  made = λ s row made. made;
}

finishes_setcs : (v text : List ℕ) → FinishesCommand (deeds.Setcs v text)
finishes_setcs v text = record {
  reply = λ b. refl;
  done = λ done lane. refl;
  active = λ b active lane. refl;
  made = λ s row made. made;
}

finishes_mkelem : (v : List ℕ) (d : ℕ) (name : List ℕ) (kind : Kind) (taken : Bool)
    → FinishesCommand (deeds.Mkelem v d name kind taken)
finishes_mkelem v d name kind taken = record {
  reply = λ b. refl;
  done = λ done lane. refl;
  active = λ b active lane. refl;
  made = λ s row made. made;
}

finishes_branch : (v : List ℕ) (e origin : ℕ) (name : List ℕ) (taken : Out) → FinishesCommand (deeds.Branch v e origin name taken)
finishes_branch v e origin name taken = record {
  reply = λ b. refl;
  done = λ done lane. refl;
  active = λ b active lane. refl;
  made = λ s row made. made;
}

finishes_put : (v path text : List ℕ) → FinishesCommand (deeds.Put v path text)
finishes_put v path text = record {
  reply = λ b. refl;
  done = λ done lane. refl;
  active = λ b active lane. refl;
  made = λ s row made. made;
}

finishes_element : (v : List ℕ) (e : ℕ) (text : List ℕ) → FinishesCommand (deeds.Save v e text)
finishes_element v e text = record {
  reply = λ b. refl;
  done = λ done lane. refl;
  active = λ b active lane. refl;
  made = λ s row made. made;
}

finishes_rm : (v path : List ℕ) → FinishesCommand (deeds.Rm v path)
finishes_rm v path = record {
  reply = λ b. refl;
  done = λ done lane. refl;
  active = λ b active lane. refl;
  made = λ s row made. made;
}

finishes_checkin : (v : List ℕ) (e : ℕ) → FinishesCommand (deeds.Checkin v e)
finishes_checkin v e = record {
  reply = λ b. refl;
  done = λ done lane. refl;
  active = λ b active lane. refl;
  made = λ s row made. made;
}

finishes_uncheckout : (v : List ℕ) (e : ℕ) → FinishesCommand (deeds.Uncheckout v e)
finishes_uncheckout v e = record {
  reply = λ b. refl;
  done = λ done lane. refl;
  active = λ b active lane. refl;
  made = λ s row made. made;
}

finishes_rmname : (v : List ℕ) (d : ℕ) (name : List ℕ) → FinishesCommand (deeds.Rmname v d name)
finishes_rmname v d name = record {
  reply = λ b. refl;
  done = λ done lane. refl;
  active = λ b active lane. refl;
  made = λ s row made. made;
}

finishes_mv : (v : List ℕ) (d : ℕ) (from_name to_name : List ℕ) → FinishesCommand (deeds.Mv v d from_name to_name)
finishes_mv v d from_name to_name = record {
  reply = λ b. refl;
  done = λ done lane. refl;
  active = λ b active lane. refl;
  made = λ s row made. made;
}

finishes_mktype : (kind : TypeKind) (name : List ℕ) → FinishesCommand (deeds.Mktype kind name)
finishes_mktype kind name = record {
  reply = λ b. refl;
  done = λ done lane. refl;
  active = λ b active lane. refl;
  made = λ s row made. made;
}

finishes_label : (label : List ℕ) (e version : ℕ) → FinishesCommand (deeds.Label label e version)
finishes_label label e version = record {
  reply = λ b. refl;
  done = λ done lane. refl;
  active = λ b active lane. refl;
  made = λ s row made. made;
}

finishes_unlabel : (label : List ℕ) (e : ℕ) → FinishesCommand (deeds.Unlabel label e)
finishes_unlabel label e = record {
  reply = λ b. refl;
  done = λ done lane. refl;
  active = λ b active lane. refl;
  made = λ s row made. made;
}

finishes_arrow : (e tail head : ℕ) → FinishesCommand (deeds.Arrow e tail head)
finishes_arrow e tail head = record {
  reply = λ b. refl;
  done = λ done lane. refl;
  active = λ b active lane. refl;
  made = λ s row made. made;
}

finishes_drop : (v path : List ℕ) → FinishesCommand (deeds.Drop v path)
finishes_drop v path = record {
  reply = λ b. refl;
  done = λ done lane. refl;
  active = λ b active lane. refl;
  made = λ s row made. made;
}

finishes_scrub : (objects : List ℕ) → FinishesCommand (deeds.Scrub objects)
finishes_scrub objects = record {
  reply = λ b. refl;
  done = λ done lane. refl;
  active = λ b active lane. refl;
  made = λ s row made. made;
}

finishes_labels : (label : List ℕ) (placed : List Placed) → FinishesCommand (deeds.Labels label placed)
finishes_labels label placed = record {
  reply = λ b. refl;
  done = λ done lane. refl;
  active = λ b active lane. refl;
  made = λ s row made. made;
}

-- a save of a private file, or of the view's checkout of an element
finishes_save : (v path text : List ℕ) (seen : Seen) → FinishesCommand (save_deed v path text seen)
finishes_save v path text Nothing = finishes_put v path text
finishes_save v path text (Private row) = finishes_put v path text
finishes_save v path text (Element e picked) = finishes_element v e text
finishes_save v path text (Unselected e) = finishes_element v e text

-- a checkout, or a new branch that is checked out
finishes_checkout : (v : List ℕ) (unreserved : Bool) (e : ℕ) (picked : Picked) (branch : Option (List ℕ))
    → FinishesCommand (checkout_deed v unreserved e picked branch)
finishes_checkout v unreserved e picked None = record {
  reply = λ b. refl;
  done = λ done lane. refl;
  active = λ b active lane. refl;
  made = λ s row made. made;
}
finishes_checkout v unreserved e picked (Some name) = record {
  reply = λ b. refl;
  done = λ done lane. refl;
  active = λ b active lane. refl;
  made = λ s row made. made;
}

-- a decision finishes its command by the row that it makes, if it makes one
abbrev Finishes : Decision → Type 0
Finishes (Makes deed) = FinishesCommand deed
Finishes decided = Unit {0}

-- a new element finishes its command
mkelem_finishes : (s : Scene) (v : List ℕ) (nco : Bool) (kind : Kind) (path : List ℕ) (d : ℕ)
    → IfDecided Finishes (mkelem_in s v nco kind path d)
mkelem_finishes s v nco kind path d =
    row_is Finishes s (needs_free_path s.base v path d (last_name path) ∷ []) (deeds.Mkelem v d (last_name path) kind (not nco))
    (λ made. finishes_mkelem v d (last_name path) kind (not nco))

rmname_finishes : (s : Scene) (v path : List ℕ) (d : ℕ) → IfDecided Finishes (rmname_in s v path d)
rmname_finishes s v path d = row_is Finishes s (rmname_tests s v path d) (deeds.Rmname v d (last_name path))
    (λ made. finishes_rmname v d (last_name path))

mv_finishes : (s : Scene) (v path name : List ℕ) (d : ℕ) → IfDecided Finishes (mv_in s v path name d)
mv_finishes s v path name d = row_is Finishes s (mv_tests s v path name d) (deeds.Mv v d (last_name path) name)
    (λ made. finishes_mv v d (last_name path) name)

checkout_finishes : (s : Scene) (v : List ℕ) (unreserved : Bool) (e : ℕ) (picked : Picked)
    → IfDecided Finishes (checkout_of s v unreserved e picked)
checkout_finishes s v unreserved e picked =
    let rule = deciding_rule s.base v picked in
    row_is Finishes s (checkout_tests s v unreserved e picked rule) (checkout_deed v unreserved e picked (branch_by rule))
    (λ made. finishes_checkout v unreserved e picked (branch_by rule))

mkbranch_finishes : (s : Scene) (v : List ℕ) (nco : Bool) (name : List ℕ) (e : ℕ) (picked : Picked)
    → IfDecided Finishes (mkbranch_of s v nco name e picked)
mkbranch_finishes s v nco name e picked =
    row_is Finishes s (mkbranch_tests s v name e) (deeds.Branch v e picked.row name (out_unless nco))
    (λ made. finishes_branch v e picked.row name (out_unless nco))

checkin_finishes : (s : Scene) (v : List ℕ) (identical : Bool) (path : List ℕ) (e : ℕ)
    → IfDecided Finishes (checkin_of s v identical path e)
checkin_finishes s v identical path e = row_is Finishes s (checkin_tests s v identical path e) (deeds.Checkin v e)
    (λ made. finishes_checkin v e)

uncheckout_finishes : (s : Scene) (v path : List ℕ) (e : ℕ) → IfDecided Finishes (uncheckout_of s v path e)
uncheckout_finishes s v path e = row_is Finishes s (needs_out path (out s.base v e) ∷ []) (deeds.Uncheckout v e)
    (λ made. finishes_uncheckout v e)

mklabel_finishes : (s : Scene) (v : List ℕ) (replace : Bool) (label : List ℕ) (e : ℕ) (picked : Picked)
    → IfDecided Finishes (mklabel_of s v replace label e picked)
mklabel_finishes s v replace label e picked = row_is Finishes s (mklabel_tests s v replace label e picked)
    (deeds.Label label e picked.row) (λ made. finishes_label label e picked.row)

rmlabel_finishes : (s : Scene) (label path : List ℕ) (e : ℕ) → IfDecided Finishes (rmlabel_of s label path e)
rmlabel_finishes s label path e = row_is Finishes s (rmlabel_tests s label path e) (deeds.Unlabel label e)
    (λ made. finishes_unlabel label e)

-- an arrow from the version that has the name, where there is one
mkarrow_finishes : (s : Scene) (v path : List ℕ) (name : VersionName) (e : ℕ) (picked : Picked)
    → IfDecided Finishes (mkarrow_of s v path name e picked)
mkarrow_finishes s v path name e picked =
    version_is Finishes path (version_named s.base e name) (mkarrow_from s v e picked)
    (λ tail found. row_is Finishes s (mkarrow_tests s v e picked tail) (deeds.Arrow e tail picked.row)
    (λ made. finishes_arrow e tail picked.row))

-- a scrub, where anything is due
scrub_finishes : (s : Scene) (ids : List ℕ) (deed : Deed) → scrub_of s ids ≡ Ok (Makes deed) → FinishesCommand deed
scrub_finishes s [] deed e = absurd (cc)
scrub_finishes s (id ∷ ids) deed e = subst FinishesCommand (same_deed _ (deeds.Scrub (id ∷ ids)) deed e)
    (finishes_scrub (id ∷ ids))

-- labels, where the record lists anything
labels_finish : (s : Scene) (tests : List (Option Refusal)) (label : List ℕ) (placed : List Placed)
    → IfDecided Finishes (labels_or_nothing s tests label placed)
labels_finish s tests label [] = answer_is Finishes tests [] tt
labels_finish s tests label (one ∷ more) = row_is Finishes s tests (deeds.Labels label (one ∷ more))
    (λ made. finishes_labels label (one ∷ more))

-- so do the rows of what is selected at a path, and of the element that stands there, past some tests
for_selected_finishes : (tests : List (Option Refusal)) (path : List ℕ) (seen : Seen) (more : ℕ → Picked
    → Result Decision Refusal) → ((e : ℕ) (picked : Picked) → IfDecided Finishes (more e picked)) →
    IfDecided Finishes (past tests (for_selected path seen more))
for_selected_finishes tests path seen more so = past_is Finishes tests (for_selected path seen more)
    (λ pass. selected_is Finishes path seen more (λ e picked same. so e picked))

for_element_finishes : (tests : List (Option Refusal)) (path : List ℕ) (seen : Seen) (more : ℕ → Result Decision Refusal)
    → ((e : ℕ) → IfDecided Finishes (more e)) → IfDecided Finishes (past tests (for_element path seen more))
for_element_finishes tests path seen more so = past_is Finishes tests (for_element path seen more)
    (λ pass. element_is Finishes path seen more so)

-- the row of a change finishes its command
pub change_finishes : (s : Scene) (change : Change) (deed : Deed) → change_decision s change ≡ Ok (Makes deed)
    → FinishesCommand deed
change_finishes s (changes.Mkview v) deed e = subst FinishesCommand (same_deed _ (deeds.Mkview v) deed e) (finishes_mkview v)
change_finishes s (changes.Rmview v force) deed e = subst FinishesCommand (same_deed _ (deeds.Rmview v) deed e)
    (finishes_rmview v)
change_finishes s (changes.Setcs v text) deed e = subst FinishesCommand (same_deed _ (deeds.Setcs v text) deed e)
    (finishes_setcs v text)
change_finishes s (changes.Mkelem v nco path) deed e = change_is Finishes s v path (mkelem_in s v nco File path)
    (λ d changes. mkelem_finishes s v nco File path d) (Makes deed) e
change_finishes s (changes.Mkdir v nco path) deed e = change_is Finishes s v path (mkelem_in s v nco Directory path)
    (λ d changes. mkelem_finishes s v nco Directory path d) (Makes deed) e
change_finishes s (changes.Checkout v unreserved path) deed e =
    for_selected_finishes (needs_view s.base v ∷ needs_idle s v ∷ []) path (at s.base v path) (checkout_of s v unreserved)
    (checkout_finishes s v unreserved) (Makes deed) e
change_finishes s (changes.Mkbranch v nco name path) deed e =
    for_selected_finishes (needs_view s.base v ∷ needs_idle s v ∷ []) path (at s.base v path) (mkbranch_of s v nco name)
    (mkbranch_finishes s v nco name) (Makes deed) e
change_finishes s (changes.Save v path text) deed e = subst FinishesCommand
    (same_deed _ (save_deed v path text (at s.base v path)) deed e) (finishes_save v path text (at s.base v path))
change_finishes s (changes.Rm v path) deed e = subst FinishesCommand (same_deed _ (deeds.Rm v path) deed e) (finishes_rm v path)
change_finishes s (changes.Checkin v identical path) deed e =
    for_element_finishes (needs_view s.base v ∷ needs_idle s v ∷ []) path (at s.base v path) (checkin_of s v identical path)
    (checkin_finishes s v identical path) (Makes deed) e
change_finishes s (changes.Uncheckout v path) deed e =
    for_element_finishes (needs_view s.base v ∷ needs_idle s v ∷ []) path (at s.base v path) (uncheckout_of s v path)
    (uncheckout_finishes s v path) (Makes deed) e
change_finishes s (changes.Rmname v path) deed e = change_is Finishes s v path (rmname_in s v path)
    (λ d changes. rmname_finishes s v path d) (Makes deed) e
change_finishes s (changes.Mv v path name) deed e = change_is Finishes s v path (mv_in s v path name)
    (λ d changes. mv_finishes s v path name d) (Makes deed) e
change_finishes s (changes.Mklbtype name) deed e = subst FinishesCommand (same_deed _ (deeds.Mktype type_kinds.Label name) deed e)
    (finishes_mktype type_kinds.Label name)
change_finishes s (changes.Mkbrtype name) deed e = subst FinishesCommand
    (same_deed _ (deeds.Mktype type_kinds.Branch name) deed e) (finishes_mktype type_kinds.Branch name)
change_finishes s (changes.Mklabel v replace label path) deed e =
    for_selected_finishes (needs_view s.base v ∷ []) path (at s.base v path) (mklabel_of s v replace label)
    (mklabel_finishes s v replace label) (Makes deed) e
change_finishes s (changes.Rmlabel v label path) deed e =
    for_element_finishes (needs_view s.base v ∷ []) path (at s.base v path) (rmlabel_of s label path)
    (rmlabel_finishes s label path) (Makes deed) e
change_finishes s (changes.Mkarrow v path name) deed e =
    for_selected_finishes (needs_view s.base v ∷ []) path (at s.base v path) (mkarrow_of s v path name)
    (mkarrow_finishes s v path name) (Makes deed) e
change_finishes s (changes.Rmdo v path) deed e = subst FinishesCommand (same_deed _ (deeds.Drop v path) deed e)
    (finishes_drop v path)
change_finishes s (changes.Scrub age) deed e = scrub_finishes s (due_objects s.base s.moment age) deed e
change_finishes s (changes.MklabelConfig v replace path label) deed e =
    past_is Finishes (needs_view s.base v ∷ []) (for_object path (held_at (objects_held s.base) v path)
    (mklabel_config_of s replace label))
    (λ pass. object_is Finishes path (held_at (objects_held s.base) v path) (mklabel_config_of s replace label)
    (λ id is. labels_finish s (mklabel_config_tests s replace label id) label (placed_by s.base id))) (Makes deed) e

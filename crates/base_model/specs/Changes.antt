-- The changes that a base's rows make: of the trees of versions, of labels and of references; and which objects are live.
use Rattle.std.specs.Prelude.{ℕ, ◌==◌, Option, Some, None, List, [], ◌∷◌, bytes_eq}
use Rattle.std.specs.List.{list_any}
use Rattle.cc_names.specs.Last.{Effect, Keeps, Ends, Sets, only_if, last}
use Rattle.cc_names.specs.Branches.{branch_of_version}
use Rattle.cc_names.specs.References.{ReferencesByPath, references}
use Rattle.cc_names.specs.declared.rows.Kind.TheVariants.{Directory}
use Rattle.cc_names.specs.declared.rows.Placed.{Placed}
use Rattle.cc_names.specs.declared.rows.TypeKind.{TypeKind}
use Rattle.cc_names.specs.declared.rows.Deed.{Deed}
use Rattle.cc_names.specs.declared.rows.Deed.TheVariants as deeds
use Rattle.cc_names.specs.declared.changes.TreeChange.{TreeChange}
use Rattle.cc_names.specs.declared.changes.TreeChange.TheVariants.{ElementMade, BranchMade, VersionMade}
use Rattle.cc_names.specs.declared.changes.LabelChange.{LabelChange}
use Rattle.cc_names.specs.declared.changes.LabelChange.TheVariants.{Put, Taken}
use Rattle.cc_names.specs.declared.changes.ReferenceChange.{ReferenceChange}
use Rattle.cc_names.specs.declared.changes.ReferenceChange.TheVariants.{Won, Lost, ViewGone}
use Rattle.base_model.specs.Rows.{Base, size, deed_at}
use Rattle.base_model.specs.Views.{Checkout, out}

-- one more version on a branch, where there is a branch
abbrev pub with_version : ℕ → ℕ → Option ℕ → List TreeChange → List TreeChange
with_version n moment None changes = changes
with_version n moment (Some branch) changes = VersionMade n moment branch ∷ changes

-- one more version on the branch of a checkout's origin, where there is a checkout
abbrev pub with_checkin : ℕ → ℕ → Option Checkout → List TreeChange → List TreeChange
with_checkin n moment None changes = changes
with_checkin n moment (Some checkout) changes = with_version n moment (branch_of_version changes checkout.origin) changes

-- the trees after a row: a checkin makes the next version on the branch of the checkout that it ends
abbrev pub tree_after : Base → ℕ → Deed → List TreeChange → List TreeChange
tree_after older moment (deeds.Mkelem v directory name kind out) changes = ElementMade (size older) moment kind ∷ changes
tree_after older moment (deeds.Branch v e origin name out) changes = BranchMade (size older) moment e origin name ∷ changes
tree_after older moment (deeds.Checkin v e) changes = with_checkin (size older) moment (out older v e) changes
tree_after older moment deed changes = changes

-- the trees of all elements, newest first; row 0 makes the root directory, element 0
abbrev pub tree : Base → List TreeChange
tree [] = ElementMade 0 0 Directory ∷ []
tree (row ∷ older) = tree_after older row.moment row.deed (tree older)

-- one label put on each version of a list
abbrev pub all_placed : ℕ → List ℕ → List Placed → List LabelChange → List LabelChange
all_placed n label [] changes = changes
all_placed n label (placed ∷ more) changes = all_placed n label more (Put n label placed.element placed.version ∷ changes)

-- the labels after a row
abbrev pub labels_after : ℕ → Deed → List LabelChange → List LabelChange
labels_after n (deeds.Label label e version) changes = Put n label e version ∷ changes
labels_after n (deeds.Unlabel label e) changes = Taken n label e ∷ changes
labels_after n (deeds.Labels label placed) changes = all_placed n label placed changes
labels_after n deed changes = changes

-- the changes of labels, newest first
abbrev pub labels : Base → List LabelChange
labels [] = []
labels (row ∷ older) = labels_after (size older) row.deed (labels older)

-- the targets of a publish; any other row has none
abbrev pub targets_of_deed : Option Deed → List (List ℕ)
targets_of_deed (Some (deeds.Publish v targets script entries outputs)) = targets
targets_of_deed _ = []

-- the targets of an object
abbrev pub targets_of : Base → ℕ → List (List ℕ)
targets_of b id = targets_of_deed (deed_at b id)

-- the references after a row: a published or winked object is held at its targets
abbrev pub holdings_after : Base → Deed → List ReferenceChange → List ReferenceChange
holdings_after older (deeds.Rmview v) changes = ViewGone v ∷ changes
holdings_after older (deeds.Publish v targets script entries outputs) changes = Won v targets (size older) ∷ changes
holdings_after older (deeds.Wink v id) changes = Won v (targets_of older id) id ∷ changes
holdings_after older (deeds.Drop v path) changes = Lost v path ∷ changes
holdings_after older deed changes = changes

-- the changes of references, newest first
abbrev pub holdings : Base → List ReferenceChange
holdings [] = []
holdings (row ∷ older) = holdings_after older row.deed (holdings older)

-- the objects that views hold
abbrev pub objects_held : Base → ReferencesByPath
objects_held b = references (holdings b)

-- an object lives from its publish until a scrub takes it
abbrev pub live_effect : ℕ → ℕ → Deed → Effect ℕ
live_effect id n (deeds.Publish v targets script entries outputs) = only_if (n == id) (Sets n)
live_effect id n (deeds.Scrub objects) = only_if (list_any (λ object. object == id) objects) Ends
live_effect id n deed = Keeps

-- the object's row, where it is live
abbrev pub live_row : Base → ℕ → Option ℕ
live_row b id = last (λ older row. live_effect id (size older) row.deed) b

-- a type of labels or of branches is made once
abbrev pub type_effect : List ℕ → Deed → Effect TypeKind
type_effect name (deeds.Mktype kind made) = only_if (bytes_eq made name) (Sets kind)
type_effect name deed = Keeps

-- what the type of this name is a type of
abbrev pub kind_of_type : Base → List ℕ → Option TypeKind
kind_of_type b name = last (λ older row. type_effect name row.deed) b

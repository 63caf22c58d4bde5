-- The commands on types, labels and arrows: the tests of each in their order, and its deed.
use Rattle.std.specs.Prelude.{ℕ, Bool, true, false, ◌&&◌, ◌==◌, nat_lt, Option, Some, None, Result, List, [], ◌∷◌, is_none}
use Rattle.std.specs.Prelude.{option_map, option_and_then}
use Rattle.std.specs.Option.{option_or}
use Rattle.cc_names.specs.Branches.{branch_behind}
use Rattle.cc_names.specs.Labels.{holder}
use Rattle.cc_names.specs.References.{held_at}
use Rattle.cc_names.specs.Versions.{is_number, version_of_number, version_id}
use Rattle.cc_names.specs.declared.commands.VersionName.{VersionName}
use Rattle.cc_names.specs.declared.refusals.Refusal.{Refusal}
use Rattle.cc_names.specs.declared.refusals.Refusal.TheVariants as refusals
use Rattle.cc_names.specs.declared.rows.Deed.TheVariants as deeds
use Rattle.cc_names.specs.declared.rows.Placed.{Placed}
use Rattle.cc_names.specs.declared.rows.TypeKind.{TypeKind}
use Rattle.cc_names.specs.declared.selection.Picked.{Picked}
use Rattle.base_model.specs.Rows.{Base, only_where}
use Rattle.base_model.specs.Changes.{tree, labels, objects_held}
use Rattle.base_model.specs.Closures.{Inputs, closure, placed_by}
use Rattle.base_model.specs.Conditions.{has_label, arrow_row}
use Rattle.legal_history.specs.Commands.Decisions.{Scene, Decision, past, makes, answers}
use Rattle.legal_history.specs.Commands.Found.{for_selected, for_element, for_object, for_version}
use Rattle.base_model.specs.Seen.{at}
use Rattle.legal_history.specs.Commands.CheckoutTests.{needs_not_out}
use Rattle.legal_history.specs.Commands.Tests.{refused_where, refused_unless, needs_view, needs_label_type, needs_free_type}
use Rattle.base_model.specs.Views.{Checkout, out}

-- `mklbtype L` and `mkbrtype B`: a type of labels or of branches
abbrev pub mktype : Scene → TypeKind → List ℕ → Result Decision Refusal
mktype s kind name = makes s (needs_free_type s.base name ∷ []) (deeds.Mktype kind name)

-- a version is selected and no checkout; the refusal names the row that made the checkout
abbrev pub needs_version_picked : Bool → Option Checkout → Option Refusal
needs_version_picked true taken = needs_not_out taken
needs_version_picked false taken = None

-- a label stands on this version or on none of the element; the refusal names the version that holds it
abbrev pub label_free : ℕ → Option ℕ → Option Refusal
label_free version None = None
label_free version (Some other) = refused_unless (is_number version (Some other)) (refusals.LabelElsewhere other)

-- a label on another version is in the way unless `-replace` is given
abbrev pub needs_label_free : Base → Bool → List ℕ → ℕ → ℕ → Option Refusal
needs_label_free b true label e version = None
needs_label_free b false label e version = label_free version (holder (labels b) label e)

-- the tests of a label on an element of which this was picked
abbrev pub mklabel_tests : Scene → List ℕ → Bool → List ℕ → ℕ → Picked → List (Option Refusal)
mklabel_tests s v replace label e picked =
    needs_label_type s.base label ∷ needs_version_picked picked.out (out s.base v e)
    ∷ needs_label_free s.base replace label e picked.row ∷ []

-- a label on an element of which this was picked
abbrev pub mklabel_of : Scene → List ℕ → Bool → List ℕ → ℕ → Picked → Result Decision Refusal
mklabel_of s v replace label e picked = makes s (mklabel_tests s v replace label e picked) (deeds.Label label e picked.row)

-- `mklabel V [-replace] L P`: the label stands on the selected version
abbrev pub mklabel : Scene → List ℕ → Bool → List ℕ → List ℕ → Result Decision Refusal
mklabel s v replace label path =
    past (needs_view s.base v ∷ []) (for_selected path (at s.base v path) (mklabel_of s v replace label))

-- the label stands on a version of the element
abbrev pub needs_label : Base → List ℕ → List ℕ → ℕ → Option Refusal
needs_label b label path e = refused_unless (has_label b label e) (refusals.NoLabel path)

-- the tests of the removal of a label from an element
abbrev pub rmlabel_tests : Scene → List ℕ → List ℕ → ℕ → List (Option Refusal)
rmlabel_tests s label path e = needs_label_type s.base label ∷ needs_label s.base label path e ∷ []

-- the removal of a label from an element
abbrev pub rmlabel_of : Scene → List ℕ → List ℕ → ℕ → Result Decision Refusal
rmlabel_of s label path e = makes s (rmlabel_tests s label path e) (deeds.Unlabel label e)

-- `rmlabel V L P`: the label stands on no version of the element
abbrev pub rmlabel : Scene → List ℕ → List ℕ → List ℕ → Result Decision Refusal
rmlabel s v label path = past (needs_view s.base v ∷ []) (for_element path (at s.base v path) (rmlabel_of s label path))

-- the first path among inputs whose row is above 0 and no version
abbrev pub outsider_among : Base → Inputs → Option (List ℕ)
outsider_among b [] = None
outsider_among b (input ∷ inputs) =
    option_or (only_where (nat_lt 0 input.1 && is_none (version_id (tree b) input.1)) (Some input.0.0)) (outsider_among b inputs)

-- the first path of an object's closure that is there and no version
abbrev pub outsider : Base → ℕ → Option (List ℕ)
outsider b id = outsider_among b (closure b id)

-- the label is free on each of some elements
abbrev pub labels_free : Base → Bool → List ℕ → List Placed → List (Option Refusal)
labels_free b replace label [] = []
labels_free b replace label (placed ∷ more) = needs_label_free b replace label placed.element placed.version
    ∷ labels_free b replace label more

-- the tests of a label on each version that the record of an object lists
abbrev pub mklabel_config_tests : Scene → Bool → List ℕ → ℕ → List (Option Refusal)
mklabel_config_tests s replace label id =
    needs_label_type s.base label ∷ option_map refusals.NotVersion (outsider s.base id)
    ∷ labels_free s.base replace label (placed_by s.base id)

-- a row where there is something to label, else an empty answer
abbrev pub labels_or_nothing : Scene → List (Option Refusal) → List ℕ → List Placed → Result Decision Refusal
labels_or_nothing s tests label [] = answers tests []
labels_or_nothing s tests label (placed ∷ more) = makes s tests (deeds.Labels label (placed ∷ more))

-- a label on each version that the record of an object lists
abbrev pub mklabel_config_of : Scene → Bool → List ℕ → ℕ → Result Decision Refusal
mklabel_config_of s replace label id = labels_or_nothing s (mklabel_config_tests s replace label id) label (placed_by s.base id)

-- `mklabel V [-replace] -config P L`: the label stands on each version that the record of the view's object lists
abbrev pub mklabel_config : Scene → List ℕ → Bool → List ℕ → List ℕ → Result Decision Refusal
mklabel_config s v replace path label =
    past (needs_view s.base v ∷ []) (for_object path (held_at (objects_held s.base) v path) (mklabel_config_of s replace label))

-- the element's version of this name
abbrev pub version_named : Base → ℕ → VersionName → Option ℕ
version_named b e name = option_and_then (λ branch. version_of_number (tree b) branch name.number)
    (branch_behind (tree b) e name.branches)

-- the tests of an arrow to an element of which this was picked, from this version of it
abbrev pub mkarrow_tests : Scene → List ℕ → ℕ → Picked → ℕ → List (Option Refusal)
mkarrow_tests s v e picked tail =
    needs_version_picked picked.out (out s.base v e) ∷ refused_where (picked.row == tail) (refusals.SameVersion picked.row)
    ∷ option_map refusals.ArrowExists (arrow_row s.base e tail picked.row) ∷ []

-- an arrow to an element of which this was picked, from this version of it
abbrev pub mkarrow_from : Scene → List ℕ → ℕ → Picked → ℕ → Result Decision Refusal
mkarrow_from s v e picked tail = makes s (mkarrow_tests s v e picked tail) (deeds.Arrow e tail picked.row)

-- an arrow to an element of which this was picked, from the version of it that has this name
abbrev pub mkarrow_of : Scene → List ℕ → List ℕ → VersionName → ℕ → Picked → Result Decision Refusal
mkarrow_of s v path name e picked = for_version path (version_named s.base e name) (mkarrow_from s v e picked)

-- `mkarrow V P VERSION`: an arrow from that version to the one that the view selects
abbrev pub mkarrow : Scene → List ℕ → List ℕ → VersionName → Result Decision Refusal
mkarrow s v path name = past (needs_view s.base v ∷ []) (for_selected path (at s.base v path) (mkarrow_of s v path name))

-- Which version a config spec picks: the first rule that decides, over the changes of the trees and of the labels.
use Rattle.std.specs.Prelude.{ℕ, Bool, true, false, ◌&&◌, ◌||◌, Option, Some, None, is_some, List, codes, if◌then◌else◌}
use Rattle.std.specs.List.{find}
use Rattle.std.specs.Option.{option_map, option_and_then}
use Rattle.std.specs.Str.{bytes_eq}
use Rattle.cc_names.specs.Branches.{branch_named, branch_behind}
use Rattle.cc_names.specs.Labels.{holder, labels_of_first_rows}
use Rattle.cc_names.specs.Versions.{latest, version_of_number, of_first_rows}
use Rattle.cc_names.specs.declared.changes.LabelChange.{LabelChange}
use Rattle.cc_names.specs.declared.changes.TreeChange.{TreeChange}
use Rattle.cc_names.specs.declared.selection.Picked.{Picked}
use Rattle.cc_names.specs.declared.selection.Rule.{Rule}
use Rattle.cc_names.specs.declared.selection.Selector.{Selector}
use Rattle.cc_names.specs.declared.selection.Selector.TheVariants.{CheckedOut, Label, Latest, Wherever, Numbered, Config, Nothing}
use Rattle.base_model.specs.ConfigSpecs.Patterns.{matches}

-- What there is to select from: the changes of the trees and of the labels, the newest first, the version of an element
-- that the record of an object with a target lists, and the row that makes the text of the view's checkout.
pub record Selectables : Type 0 where
  pub tree : List TreeChange
  pub labels : List LabelChange
  pub listed : ℕ → List ℕ → ℕ → Option ℕ
  pub out : Option ℕ

-- what there is to select from in the first rows of a base
abbrev pub selectables_at : ℕ → List TreeChange → List LabelChange → (ℕ → List ℕ → ℕ → Option ℕ) → Option ℕ → Selectables
selectables_at rows tree labels listed out =
    record { tree = of_first_rows rows tree; labels = labels_of_first_rows rows labels; listed = listed; out = out }

-- no record lists any version
abbrev pub none_listed : ℕ → List ℕ → ℕ → Option ℕ
none_listed object target element = None

-- an element's branch of a type, wherever it stands. `main` is named by the element
abbrev pub branch_of_type : Selectables → ℕ → List ℕ → Option ℕ
branch_of_type sources element name =
    if bytes_eq name (codes "main") then Some element else branch_named sources.tree element name

-- the last version on a branch, where there is the branch
abbrev pub latest_on : Selectables → Option ℕ → Option ℕ → Option ℕ
latest_on sources before branch = option_and_then (λ b. latest sources.tree b before) branch

-- what a selector finds of an element. The time affects LATEST alone
abbrev pub finds : Selectables → ℕ → Option ℕ → Selector → Option ℕ
finds sources element before CheckedOut = sources.out
finds sources element before (Label name) = holder sources.labels name element
finds sources element before (Latest names) = latest_on sources before (branch_behind sources.tree element names)
finds sources element before (Wherever name) = latest_on sources before (branch_of_type sources element name)
finds sources element before (Numbered names number) =
    option_and_then (λ b. version_of_number sources.tree b number) (branch_behind sources.tree element names)
finds sources element before (Config target object) = sources.listed object target element
finds sources element before Nothing = None

-- what a rule finds of an element
abbrev pub found_by : Selectables → ℕ → Rule → Option ℕ
found_by sources element rule = finds sources element rule.before rule.selector

-- whether a selector is `-none`
abbrev pub ends_scan : Selector → Bool
ends_scan Nothing = true
ends_scan _ = false

-- whether a selector is CHECKEDOUT
abbrev pub is_checkout : Selector → Bool
is_checkout CheckedOut = true
is_checkout _ = false

-- whether a rule decides on an element at the path of these names: its pattern matches, and its selector finds a
-- version or is `-none`
abbrev pub decides : Selectables → ℕ → List (List ℕ) → Rule → Bool
decides sources element names rule =
    matches rule.pattern names && (ends_scan rule.selector || is_some (found_by sources element rule))

-- the rule that decides: the first that does
abbrev pub deciding : Selectables → ℕ → List (List ℕ) → List Rule → Option Rule
deciding sources element names rules = find (decides sources element names) rules

-- what the rule that decides picks
abbrev pub picked_by : Selectables → ℕ → Rule → Option Picked
picked_by sources element rule =
    option_map (λ row. record { row = row; line = rule.line; out = is_checkout rule.selector }) (found_by sources element rule)

-- What rules pick of an element at the path of these names.
abbrev pub pick : Selectables → ℕ → List (List ℕ) → List Rule → Option Picked
pick sources element names rules =
    option_and_then (picked_by sources element) (deciding sources element names rules)

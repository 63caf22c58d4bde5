-- Which version a label stands on, given by the list of changes of labels, the newest first.
use Rattle.std.specs.Prelude.{ℕ, ◌==◌, ◌&&◌, nat_lt, Option, List, filter}
use Rattle.std.specs.Str.{bytes_eq}
use Rattle.cc_names.specs.Last.{Effect, Ends, Sets, only_if, last}
use Rattle.cc_names.specs.declared.changes.LabelChange.{LabelChange}
use Rattle.cc_names.specs.declared.changes.LabelChange.TheVariants.{Put, Taken}

-- the row that made a change
abbrev pub row_of_label_change : LabelChange → ℕ
row_of_label_change (Put row label element version) = row
row_of_label_change (Taken row label element) = row

-- the changes that the first rows of a base made
abbrev pub labels_of_first_rows : ℕ → List LabelChange → List LabelChange
labels_of_first_rows rows changes = filter (λ change. nat_lt (row_of_label_change change) rows) changes

-- what a change does to the place of a label on an element
abbrev pub label_effect : List ℕ → ℕ → LabelChange → Effect ℕ
label_effect name e (Put row label element version) = only_if (bytes_eq name label && (e == element)) (Sets version)
label_effect name e (Taken row label element) = only_if (bytes_eq name label && (e == element)) Ends

-- The version of the element that holds the label: that of the last change which put the label on the element, with no
-- later one that took it off.
abbrev pub holder : List LabelChange → List ℕ → ℕ → Option ℕ
holder changes name e = last (λ older change. label_effect name e change) changes

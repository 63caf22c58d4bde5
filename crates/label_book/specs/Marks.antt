-- What contracts see of a `Book`: the changes of labels, of which the order counts only for one label on one element.
use Rattle.std.specs.Prelude.{◌≡◌, ℕ, ◌==◌, ◌&&◌, Bool, false, IsTrue, List, ◌∷◌, map, filter}
use Rattle.std.specs.Str.{bytes_eq}
use Rattle.std.specs.List.{list_any}
use Rattle.cc_names.specs.Labels.{row_of_label_change}
use Rattle.cc_names.specs.declared.changes.LabelChange.{LabelChange}
use Rattle.cc_names.specs.declared.changes.LabelChange.TheVariants.{Put, Taken}

-- a label on an element
pub record Pair : Type 0 where
  pub label : List ℕ
  pub element : ℕ

-- the changes, newest first for each label on each element; and the pairs that have room for one more change
pub record Marks : Type 0 where
  pub changes : List LabelChange
  pub ready : List Pair

-- whether a change is of this label on this element
abbrev pub is_about : List ℕ → ℕ → LabelChange → Bool
is_about l e (Put row label element version) = bytes_eq l label && (e == element)
is_about l e (Taken row label element) = bytes_eq l label && (e == element)

-- the changes of one label on one element
abbrev pub of_pair : List ℕ → ℕ → List LabelChange → List LabelChange
of_pair l e changes = filter (is_about l e) changes

-- their rows
abbrev pub rows_of_pair : List ℕ → ℕ → List LabelChange → List ℕ
rows_of_pair l e changes = map row_of_label_change (of_pair l e changes)

-- whether a pair is this label and this element
abbrev pub is_that : List ℕ → ℕ → Pair → Bool
is_that l e pair = bytes_eq l pair.label && (e == pair.element)

-- whether a label on an element has room for one more change
abbrev pub has_label_room : Marks → List ℕ → ℕ → Bool
has_label_room marks l e = list_any (is_that l e) marks.ready

-- one change more, the newest of its label on its element; all others keep their room
pub record AddsLabelChange (old new : Marks) (change : LabelChange) : Type 0 where
  pub pairs : (l : List ℕ) (e : ℕ) → of_pair l e new.changes ≡ of_pair l e (change ∷ old.changes)
  pub ready : (l : List ℕ) (e : ℕ) → is_about l e change ≡ false → IsTrue (has_label_room old l e)
      → IsTrue (has_label_room new l e)

-- nothing is changed but room, of which there is no less
pub record KeepsMarks (old new : Marks) : Type 0 where
  pub pairs : (l : List ℕ) (e : ℕ) → of_pair l e new.changes ≡ of_pair l e old.changes
  pub ready : (l : List ℕ) (e : ℕ) → IsTrue (has_label_room old l e) → IsTrue (has_label_room new l e)

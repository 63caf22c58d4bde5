-- Changes of labels, as a book keeps them: their order counts only for one label on one element.
use Rattle.std.specs.Prelude.{◌≡◌, ℕ, ◌<◌, IsTrue, List, length, slice_index_or}
use Rattle.cc_names.specs.declared.changes.LabelChange.{LabelChange}
use Rattle.cc_names.specs.declared.rows.Deed.{Deed}
use Rattle.cc_names.specs.declared.rows.Deed.TheVariants as deeds
use Rattle.cc_names.specs.declared.rows.Placed.{Placed}
use Rattle.label_book.specs.Marks.{Marks, has_label_room, of_pair}

-- these are the changes of each label on each element
pub record AreLabels (kept changes : List LabelChange) : Type 0 where
  pub pairs : (l : List ℕ) (e : ℕ) → of_pair l e kept ≡ of_pair l e changes

-- a label has room for one change more on the element of each of these versions
abbrev pub AreReady : Marks → List ℕ → List Placed → Type 0
AreReady marks label placed =
    (k : ℕ) (d : Placed) → k < length placed → IsTrue (has_label_room marks label (slice_index_or placed k d).element)

-- there is room for the changes of labels that a row of this deed makes
abbrev pub HasLabelRoom : Marks → Deed → Type 0
HasLabelRoom marks (deeds.Label label e version) = IsTrue (has_label_room marks label e)
HasLabelRoom marks (deeds.Unlabel label e) = IsTrue (has_label_room marks label e)
HasLabelRoom marks (deeds.Labels label placed) = AreReady marks label placed
HasLabelRoom marks deed = Unit {0}

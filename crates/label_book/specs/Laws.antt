-- The laws on the holders of labels as changes are added. Each is promised by a function of `laws`.
use Rattle.std.specs.Prelude.{◌≡◌, ℕ, ◌≤◌, List, ◌∷◌}
use Rattle.cc_names.specs.Labels.{row_of_label_change, labels_of_first_rows, holder}
use Rattle.cc_names.specs.declared.changes.LabelChange.{LabelChange}
use Rattle.label_book.specs.Marks.{Marks, AddsLabelChange, KeepsMarks}

-- After a change each label stands where it stands by that change and all older ones, at any number of rows.
abbrev pub OneChangeMore : Type 0
OneChangeMore = (old new : Marks) (change : LabelChange)
    → AddsLabelChange old new change
    → (rows : ℕ) (l : List ℕ) (e : ℕ)
    → holder (labels_of_first_rows rows new.changes) l e
    ≡ holder (labels_of_first_rows rows (change ∷ old.changes)) l e

-- A change moves no label in the first rows, where its own row is not among them. So no change alters an answer at a
-- smaller number of rows.
abbrev pub OlderHoldersStay : Type 0
OlderHoldersStay = (old new : Marks) (change : LabelChange)
    → AddsLabelChange old new change
    → (rows : ℕ)
    → rows ≤ row_of_label_change change
    → (l : List ℕ) (e : ℕ)
    → holder (labels_of_first_rows rows new.changes) l e
    ≡ holder (labels_of_first_rows rows old.changes) l e

-- Making room moves no label.
abbrev pub RoomMovesNoLabel : Type 0
RoomMovesNoLabel = (old new : Marks)
    → KeepsMarks old new
    → (rows : ℕ) (l : List ℕ) (e : ℕ)
    → holder (labels_of_first_rows rows new.changes) l e
    ≡ holder (labels_of_first_rows rows old.changes) l e

use Rattle.std.proofs.Common.{ℕ, ◌<◌, ◌≤◌, IsTrue, length, drop}
use Rattle.std.specs.Prelude.{slice_index_or}
use Rattle.cc_names.specs.Falling.{IsAbove}
use Rattle.cc_names.specs.declared.rows.Placed.{Placed}
use Rattle.label_book.specs.Marks.{has_label_room, rows_of_pair}
use Rattle.base_model.specs.Changes.{all_placed}
use Rattle.base_rows.specs.Labelling.{AreLabels}
use Rattle.base_rows.proofs.labels.attach_all.Given as goal

-- those that are left are older than the row and have room, and with them the label is on all
abbrev pub invariant-loop-one : goal.invariant-loop-one
invariant-loop-one l = record {
  above : (k : ℕ) (d : Placed) → l.one-index ≤ k → k < length l.placed
      → IsAbove l.row (rows_of_pair l.label (slice_index_or l.placed k d).element l.book.changes);
  ready : (k : ℕ) (d : Placed) → l.one-index ≤ k → k < length l.placed
      → IsTrue (has_label_room l.book l.label (slice_index_or l.placed k d).element);
  same : AreLabels (all_placed l.row l.label (drop l.one-index l.placed) l.book.changes)
      (all_placed l.row l.label l.placed l.initial.book.changes);
}

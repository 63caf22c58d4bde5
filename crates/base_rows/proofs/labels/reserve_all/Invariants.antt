use Rattle.std.proofs.Common.{ℕ, ◌<◌, IsTrue}
use Rattle.std.specs.Prelude.{slice_index_or}
use Rattle.cc_names.specs.declared.rows.Placed.{Placed}
use Rattle.label_book.specs.Marks.{has_label_room, KeepsMarks}
use Rattle.base_rows.proofs.labels.reserve_all.Given as goal

-- the elements so far have room, and nothing else is changed
abbrev pub invariant-loop-one : goal.invariant-loop-one
invariant-loop-one l = record {
  kept : KeepsMarks l.initial.book l.book;
  ready : (k : ℕ) (d : Placed) → k < l.one-index → IsTrue (has_label_room l.book l.label (slice_index_or l.placed k d).element);
}

use Rattle.std.proofs.Common.{ℕ, ◌<◌, IsTrue}
use Rattle.std.specs.Prelude.{slice_index}
use Rattle.label_book.specs.Marks.{has_label_room, KeepsMarks}
use Rattle.label_book.proofs.Book.reserve.Given as goal

-- the elements so far have room, and nothing else is changed
abbrev pub invariant-loop-element : goal.invariant-loop-element
invariant-loop-element l = record {
  kept : KeepsMarks l.initial.self l.self;
  ready : (k : ℕ) → k < l.element-index → IsTrue (has_label_room l.self l.label (slice_index l.elements k));
}

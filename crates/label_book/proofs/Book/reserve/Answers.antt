use Rattle.std.proofs.Common.{inl, inr, ◌∙◌, arith}
use Rattle.std.specs.Prelude.{slice_index}
use Rattle.std.proofs.lemmas.Bool.{cases_eq}
use Rattle.label_book.specs.Marks.{Marks, KeepsMarks}
use Rattle.label_book.proofs.Book.reserve.Goals as goal

-- what is kept twice is kept
stored_both : (first second third : Marks) → KeepsMarks first second → KeepsMarks second third → KeepsMarks first third
stored_both first second third one two = record {
  pairs = λ l e. two.pairs l e ∙ one.pairs l e;
  ready = λ l e is. two.ready l e (one.ready l e is);
}

pub returns-in_err-reserve_one-clause-kept : goal.returns-in_err-reserve_one-clause-kept
returns-in_err-reserve_one-clause-kept c = stored_both _ _ _ c.loop-element.invariant.kept c.reserve_one.ensures.kept

-- one element more has room
pub loop-element-preserved : goal.loop-element-preserved
loop-element-preserved c = record {
  kept = stored_both _ _ _ c.loop-element.invariant.kept c.reserve_one.ensures.kept;
  ready = λ k lt. elim (cases_eq k c.loop-element.element-index) [
    | inl same ↦ rw same c.in_ok-reserve_one.ensures.ready
    | inr other ↦ c.reserve_one.ensures.kept.ready c.args.label.now (slice_index c.args.elements.now k)
        (c.loop-element.invariant.ready k (omega arith))
  ];
}

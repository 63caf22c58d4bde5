use Rattle.std.proofs.Common.{◌≡◌, IsTrue, inl, inr, get_or, ap, subst, sym, ◌∙◌, arith}
use Rattle.std.proofs.lemmas.Bool.{cases_eq}
use Rattle.std.proofs.lemmas.List.{get_or_default}
use Rattle.cc_names.specs.declared.rows.Placed.{Placed}
use Rattle.label_book.specs.Marks.{Marks, KeepsMarks, has_label_room}
use Rattle.base_rows.proofs.labels.reserve_all.Goals as goal

-- what is kept twice is kept
stored_both : (first second third : Marks) → KeepsMarks first second → KeepsMarks second third → KeepsMarks first third
stored_both first second third one two = record {
  pairs = λ l e. two.pairs l e ∙ one.pairs l e;
  ready = λ l e is. two.ready l e (one.ready l e is);
}

pub returns-in_err-reserve-clause-kept : goal.returns-in_err-reserve-clause-kept
returns-in_err-reserve-clause-kept c = stored_both _ _ _ c.loop-one.invariant.kept c.reserve.ensures.kept

-- one element more has room
pub loop-one-preserved : goal.loop-one-preserved
loop-one-preserved c =
    let placed = c.args.placed.now in
    let i = c.loop-one.one-index in
    let zero : Placed = record { element = 0; version = 0 } in
    record {
      kept = stored_both _ _ _ c.loop-one.invariant.kept c.reserve.ensures.kept;
      ready = λ k d lt. elim (cases_eq k i) [
        | inl same ↦
            let here : get_or placed i zero ≡ get_or placed k d = get_or_default placed i zero d c.loop-one-test.true
            ∙ ap (λ j. get_or placed j d) (sym same) in
            subst (λ (one : Placed). IsTrue (has_label_room c.reserve.new.self c.args.label.now one.element)) here
            (c.in_ok-reserve.ensures.ready 0 (omega arith))
        | inr other ↦ c.reserve.ensures.kept.ready c.args.label.now (get_or placed k d).element
            (c.loop-one.invariant.ready k d (omega arith))
      ];
    }

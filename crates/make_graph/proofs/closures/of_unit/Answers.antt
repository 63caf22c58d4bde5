-- The walk down the units marks those that are needed.
use Rattle.std.proofs.Common.{◌≡◌, ◌-◌, suc, true, false, ℕ, List, sym, subst, ◌∙◌, arith}
use Rattle.make_graph.specs.Marks.{AddsMarks, IsEndBelow}
use Rattle.make_graph.specs.Waits.{makers_of, prerequisites_at, is_marked}
use Rattle.make_graph.proofs.MarkLemmas.{HasMarks, first_marks, marks_more, marks_same}
use Rattle.make_graph.proofs.closures.of_unit.Goals as goal

pub loop-number-init : goal.loop-number-init
loop-number-init c =
    let units = c.args.graph.now in
    let unit = c.args.unit in
    let end = c.end_below-number.result in
    let clear = c.in_ok-marks.marks in
    let marks = c.mark_all.new.marks in
    let wanted = makers_of units (prerequisites_at units unit) in
    let is : c.makers-wanted.result.now ≡ wanted = c.makers-wanted.ensures in
    let adds : AddsMarks end wanted clear marks =
    subst (λ (numbers : List ℕ). AddsMarks end numbers clear marks) is c.mark_all.ensures.marks
    in
    record {
      room = omega (arith, c.mark_all.ensures.length, c.in_ok-marks.ensures.room);
      below = c.end_below-number.ensures.within;
      marks = first_marks units unit end clear marks c.in_ok-marks.ensures.none c.end_below-number.ensures.within
          (subst (λ (numbers : List ℕ). IsEndBelow unit numbers end) is c.end_below-number.ensures.all) adds;
    }

pub loop-number-preserved-then-has : goal.loop-number-preserved-then-has
loop-number-preserved-then-has c =
    let units = c.args.graph.now in
    let unit = c.args.unit in
    let k = c.loop-number.number - 1 in
    let marks = c.loop-number.marks in
    let next : c.loop-number.number ≡ suc k = omega (arith, c.loop-number-test.true) in
    let before = subst (λ n. HasMarks units unit n marks) next c.loop-number.invariant.marks in
    let marked : is_marked marks k ≡ true = sym c.has.ensures ∙ c.if-has.true in
    record {
      room = omega (arith, c.mark_all-then-has.ensures.length, c.loop-number.invariant.room);
      below = omega (arith, c.loop-number.invariant.below);
      marks = marks_more units unit k marks c.mark_all-then-has.new.marks before marked
          (subst (λ (numbers : List ℕ). AddsMarks k numbers marks c.mark_all-then-has.new.marks) c.makers.ensures
          c.mark_all-then-has.ensures.marks);
    }

pub loop-number-preserved : goal.loop-number-preserved
loop-number-preserved c =
    let units = c.args.graph.now in
    let unit = c.args.unit in
    let k = c.loop-number.number - 1 in
    let marks = c.loop-number.marks in
    let next : c.loop-number.number ≡ suc k = omega (arith, c.loop-number-test.true) in
    let before = subst (λ n. HasMarks units unit n marks) next c.loop-number.invariant.marks in
    let marked : is_marked marks k ≡ false = sym c.has.ensures ∙ c.if-has.false in
    record {
      room = omega (arith, c.loop-number.invariant.room);
      below = omega (arith, c.loop-number.invariant.below);
      marks = marks_same units unit k marks before marked;
    }

-- One key after the other is marked.
use Rattle.std.proofs.Common.{◌+◌, nat_eq, drop, sym, ap, ◌∙◌, arith}
use Rattle.std.proofs.lemmas.List.{at_drop_all, at_drop_more}
use Rattle.std.specs.HashMap.{get}
use Rattle.base_rows.specs.Marked.{rows_by, with_marks}
use Rattle.base_rows.proofs.marks.mark_keys.Goals as goal

pub loop-key-preserved : goal.loop-key-preserved
loop-key-preserved c =
    let keys = c.args.keys.now in
    let i = c.loop-key.key-index in
    let row = c.args.row in
    record {
      chained = c.mark.ensures.marks.chained c.loop-key.invariant.chained;
      rows = λ q.
          ap (with_marks row q (drop (i + 1) keys)) (c.mark.ensures.marks.rows c.loop-key.invariant.chained q)
          ∙ sym (at_drop_more (λ left. with_marks row q left (rows_by c.loop-key.links.items (get nat_eq c.loop-key.newest) q))
          keys i 0 c.loop-key-test.true)
          ∙ c.loop-key.invariant.rows q;
      len = omega (arith, c.mark.ensures.len, c.loop-key.invariant.len);
      capacity = omega (arith, c.mark.ensures.capacity, c.loop-key.invariant.capacity);
      spare = omega (arith, c.mark.ensures.spare, c.loop-key.invariant.spare);
    }

pub returns-clause-marks : goal.returns-clause-marks
returns-clause-marks c =
    let keys = c.args.keys.now in
    let row = c.args.row in
    record {
      chained = λ before. c.loop-key.invariant.chained;
      rows = λ before q.
          sym (at_drop_all (λ left. with_marks row q left (rows_by c.loop-key.links.items (get nat_eq c.loop-key.newest) q)) keys
          c.loop-key.key-index c.loop-key-test.false)
          ∙ c.loop-key.invariant.rows q;
    }

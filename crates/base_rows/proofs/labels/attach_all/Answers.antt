-- Each version that is left is of another element than the one that the label is put on.
use Rattle.std.proofs.Common.{◌<◌, get_or, refl, arith}
use Rattle.cc_names.specs.declared.changes.LabelChange.TheVariants.{Put}
use Rattle.cc_names.specs.declared.rows.Placed.{Placed}
use Rattle.base_model.specs.Changes.{all_placed}
use Rattle.base_rows.proofs.Labellings.{another, next_placed, one_put, other_rows}
use Rattle.base_rows.proofs.labels.attach_all.Goals as goal

pub attach-requires-clause-above : goal.attach-requires-clause-above
attach-requires-clause-above c = c.loop-one.invariant.above c.loop-one.one-index (record { element = 0; version = 0 })
    (omega arith) c.loop-one-test.true

pub attach-requires-clause-ready : goal.attach-requires-clause-ready
attach-requires-clause-ready c = c.loop-one.invariant.ready c.loop-one.one-index (record { element = 0; version = 0 })
    (omega arith) c.loop-one-test.true

pub loop-one-init : goal.loop-one-init
loop-one-init c = record {
  above = λ k d from within. c.requires.above c.args.label.now (get_or c.args.placed.now k d).element;
  ready = λ k d from within. c.requires.ready k d within;
  same = record { pairs = λ l e. refl };
}

pub loop-one-preserved : goal.loop-one-preserved
loop-one-preserved c =
    let placed = c.args.placed.now in
    let label = c.args.label.now in
    let i = c.loop-one.one-index in
    let one : Placed = get_or placed i (record { element = 0; version = 0 }) in
    let change = Put c.args.row label one.element one.version in
    let old = c.loop-one.book in
    let new = c.attach.new.self in
    record {
      above = λ k d from within.
          let lower : i < k = omega arith in
          other_rows old new change c.args.row label (get_or placed k d).element c.attach.ensures
          (another placed label c.args.row i k (record { element = 0; version = 0 }) d c.requires.rising lower within)
          (c.loop-one.invariant.above k d (omega arith) within);
      ready = λ k d from within.
          let lower : i < k = omega arith in
          c.attach.ensures.ready label (get_or placed k d).element (another placed label c.args.row i k
          (record { element = 0; version = 0 }) d c.requires.rising lower within)
          (c.loop-one.invariant.ready k d (omega arith) within);
      same = one_put old new c.args.row label placed i one (all_placed c.args.row label placed c.args.book.now.changes)
          c.attach.ensures (next_placed placed i (record { element = 0; version = 0 }) c.loop-one-test.true)
          c.loop-one.invariant.same;
    }

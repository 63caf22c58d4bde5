use Rattle.std.proofs.Common.{arith}
use Rattle.disk_model.proofs.Stops.{stop_before, stop_at, picture_more, stop_in_all}
use Rattle.disk_model.proofs.images.image_of.Goals as goal

pub returns-then-call-made : goal.returns-then-call-made
returns-then-call-made c = λ journal objects failed first most.
    let now = c.loop-traced.invariant.follows journal objects first in
    stop_before c.args.file journal objects c.args.trace.now c.loop-traced.traced-index failed c.args.call c.loop-traced.made
    c.traced-item.result _ _
    c.loop-traced-test.true c.traced-item.is now.0 now.1 c.loop-traced.invariant.before c.if-call-made.true

pub returns-then-made-call : goal.returns-then-made-call
returns-then-made-call c = λ journal objects failed first most.
    let now = c.loop-traced.invariant.follows journal objects first in
    stop_at c.args.file journal objects c.args.trace.now c.loop-traced.traced-index failed c.args.call c.loop-traced.made
    c.traced-item.result _ _
    c.loop-traced-test.true c.traced-item.is now.0 now.1 _ _ c.if-made-call.true c.in_ok-enter.ensures

pub loop-traced-preserved : goal.loop-traced-preserved
loop-traced-preserved c = record {
  before = omega arith;
  follows = λ journal objects first.
      let now = c.loop-traced.invariant.follows journal objects first in
      picture_more c.args.file journal objects c.args.trace.now c.loop-traced.traced-index 0 c.args.call c.loop-traced.made
      c.traced-item.result _ _
      c.loop-traced-test.true c.traced-item.is now.0 now.1 _ _ c.in_ok-go_over.ensures;
}

pub returns : goal.returns
returns c = λ journal objects failed first most.
    let now = c.loop-traced.invariant.follows journal objects first in
    stop_in_all c.args.file journal objects c.args.trace.now c.loop-traced.traced-index failed c.args.call c.loop-traced.made _ _
    c.loop-traced-test.false now.0 now.1 c.loop-traced.invariant.before most

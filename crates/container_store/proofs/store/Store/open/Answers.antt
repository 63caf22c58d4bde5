-- One more extent is taken.
use Rattle.std.proofs.Common.{get_or, sym, ◌∙◌, arith}
use Rattle.container_store.specs.Extents.{extent_at}
use Rattle.container_store.proofs.Fitting.{itself}
use Rattle.container_store.proofs.Taking.{taken_more, order_more}
use Rattle.container_store.proofs.store.Store.open.Goals as goal

pub loop-extent-preserved : goal.loop-extent-preserved
loop-extent-preserved c =
    let all = c.args.taken.now in
    let i = c.loop-extent.extent-index in
    let e = get_or all i (extent_at 0 0) in
    let within = c.loop-extent-test.true in
    let is = itself all i (extent_at 0 0) within in
    let before = c.loop-extent.store.taken in
    let after = c.take.new.self.taken in
    let inv = c.loop-extent.invariant in
    let takes = c.if-not-take.ensures in (
      inv.0 ∙ taken_more c.args.length all before i e within is (sym takes.answer) after takes.taken.taken,
      order_more c.args.length all before i e within is after inv.1 takes.taken.taken,
      omega (arith, inv.2, takes.taken.room),
    )

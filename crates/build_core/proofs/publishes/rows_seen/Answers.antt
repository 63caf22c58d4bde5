-- One read more is put in order.
use Rattle.std.proofs.Common.{arith}
use Rattle.legal_history.specs.Builds.Choices.{visible}
use Rattle.build_core.proofs.RunsOrdered.{one_more}
use Rattle.build_core.proofs.publishes.rows_seen.Goals as goal

pub loop-index-preserved : goal.loop-index-preserved
loop-index-preserved c = λ it is.
    one_more (visible c.args.rows.now c.args.build.now c.args.unit it) c.args.reads.now c.loop-index.index
    c.index-reads-index.result c.visible.result c.loop-index.found.entries _
    (let low = c.loop-index.auto.index in omega arith) c.loop-index-test.true c.index-reads-index.is (c.visible.ensures it is)
    (c.loop-index.invariant it is) (cc (c.in_ok-insert.ensures.entries, c.unwrap_or-row.ensures, c.in_ok-copy.ensures.copy))

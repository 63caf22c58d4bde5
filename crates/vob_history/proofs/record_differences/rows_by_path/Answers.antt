-- One entry more counts before those that were taken.
use Rattle.std.proofs.Common.{arith}
use Rattle.std.specs.BTreeMap.{get}
use Rattle.std.specs.Cmp.Lexicographic.{slice_cmp}
use Rattle.std.specs.Ordering.{nat_cmp}
use Rattle.vob_history.proofs.DifferingPaths.{row_more}
use Rattle.vob_history.proofs.record_differences.rows_by_path.Goals as goal

pub loop-index-preserved : goal.loop-index-preserved
loop-index-preserved c = λ path.
    row_more c.args.entries.now c.loop-index.index c.index-entries-index.result c.in_ok-copy.field-0 path
    (get (slice_cmp nat_cmp) c.loop-index.found path) _
    (let low = c.loop-index.auto.index in omega arith) c.loop-index-test.true c.index-entries-index.is c.in_ok-copy.ensures.copy
    (c.loop-index.invariant path) (c.in_ok-insert.ensures.updates.0 path)

-- The last of the live objects with these targets that passes.
use Rattle.std.proofs.Common.{sym, ◌∙◌}
use Rattle.view_lookup.proofs.PooledObjects.{pooled_by_last}
use Rattle.view_lookup.proofs.pool.newest_object.Goals as goal

pub returns : goal.returns
returns g c =
    let rows = c.args.rows.now in
    c.last.ensures ∙ sym (pooled_by_last rows rows c.args.targets.now (g.T.RecordTest.passes c.args.test.now))

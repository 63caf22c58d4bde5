-- What the newest row leaves that does something to the thing.
use Rattle.std.proofs.Common.{sym, ap, ◌∙◌}
use Rattle.base_rows.specs.LookUps.{left_by}
use Rattle.base_rows.proofs.Newest.{last_by_newest}
use Rattle.base_rows.proofs.bases.FirstRows.last.Goals as goal

pub returns : goal.returns
returns g c = c.left_by.ensures ∙ ap left_by c.newest.ensures ∙ sym (last_by_newest (g.L.LookUp.effect c.args.look.now)
    c.args.self.now)

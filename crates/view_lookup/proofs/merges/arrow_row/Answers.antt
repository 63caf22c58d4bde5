-- The last row that says the merge.
use Rattle.std.proofs.Common.{sym, ◌∙◌}
use Rattle.view_lookup.proofs.Arrows.{arrow_by_last}
use Rattle.view_lookup.proofs.merges.arrow_row.Goals as goal

pub returns : goal.returns
returns c = c.last.ensures ∙ sym (arrow_by_last c.args.rows.now c.args.element c.args.tail c.args.head)

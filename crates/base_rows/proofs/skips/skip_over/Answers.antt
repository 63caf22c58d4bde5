-- The end of an end is one.
use Rattle.std.proofs.Common.{reverse, Some}
use Rattle.base_rows.specs.Marked.{rows_from}
use Rattle.base_rows.proofs.FurtherBack.{end_of_end}
use Rattle.base_rows.proofs.skips.skip_over.Goals as goal

pub returns-then-are_even-clause-end : goal.returns-then-are_even-clause-end
returns-then-are_even-clause-end c =
    let links = reverse c.args.links.now in
    end_of_end (rows_from links (Some c.in-Some-skip_at.last)) (rows_from links (Some c.in-Some.middle))
    (rows_from links (Some c.args.place))
    c.in-Some-skip_at.ensures.end c.in-Some.ensures.end

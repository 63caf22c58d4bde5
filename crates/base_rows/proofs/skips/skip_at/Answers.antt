-- The rows from where a link skips to are the last ones of those from the link on.
use Rattle.std.proofs.Common.{get_or, length, reverse, None, refl}
use Rattle.base_rows.specs.Marked.{LeadsOn, rows_from}
use Rattle.base_rows.specs.declared.marks.Link.{Link}
use Rattle.base_rows.proofs.FurtherBack.{end_of, link_in, next_end, sooner}
use Rattle.base_rows.proofs.skips.skip_at.Goals as goal

pub returns : goal.returns
returns c =
    let links = c.args.links.now in
    let none : Link = record { row = 0; older = None; skip = None; depth = 0 } in
    let link : Link = get_or links c.args.place none in
    let leads : LeadsOn (reverse links) c.args.place link = link_in links c.args.place none c.requires.there c.requires.linked in
    record {
      within = sooner link.skip c.args.place (length links) c.requires.there leads.skips;
      end = end_of _ _ _ _ refl leads.rows (next_end link.row (rows_from (reverse links) link.skip)
          (rows_from (reverse links) link.older) leads.end);
    }

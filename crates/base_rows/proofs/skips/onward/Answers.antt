-- The rows that are passed do not lie below the bound, since the one at which the link skips to does not.
use Rattle.std.proofs.Common.{◌≡◌, ◌<◌, ◌∷◌, get_or, length, IfSome, rules, reverse, Some, None, sym, ap, subst, arith}
use Rattle.base_rows.specs.Marked.{IsEnd, rows_from}
use Rattle.base_rows.specs.declared.marks.Link.{Link}
use Rattle.base_rows.proofs.FurtherBack.{end_of, link_in, next_end, sinks_from, skipped}
use Rattle.base_rows.proofs.skips.onward.Goals as goal

pub returns-then-bound-links : goal.returns-then-bound-links
returns-then-bound-links c =
    let links = reverse c.args.links.now in
    let link = c.args.link in
    let leads = c.requires.leads in
    let far = c.in-Some.far in
    let none : Link = record { row = 0; older = None; skip = None; depth = 0 } in
    let back : far < c.args.place = subst (λ n. IfSome n (λ p. p < c.args.place)) c.in-Some.is leads.skips in
    let there : far < length c.args.links.now = omega (arith, c.requires.there) in
    let at : Link = get_or c.args.links.now far none in
    let rows : rows_from links (Some far) ≡ at.row ∷ rows_from links at.older =
    (link_in c.args.links.now far none there c.requires.linked).rows in
    let end : IsEnd (rows_from links (Some far)) (rows_from links (Some c.args.place)) =
    end_of _ _ _ _ (ap (rows_from links) (sym c.in-Some.is)) leads.rows
    (next_end link.row (rows_from links link.skip) (rows_from links link.older) leads.end) in
    record {
      back = back;
      sinks = sinks_from (rows_from links (Some far)) (rows_from links (Some c.args.place)) end c.requires.sinks;
      below = skipped c.args.bound at.row (rows_from links at.older) (rows_from links (Some far))
          (rows_from links (Some c.args.place)) (search rules) rows end c.requires.sinks;
    }

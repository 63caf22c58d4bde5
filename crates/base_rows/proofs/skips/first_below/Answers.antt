-- Each link on the way is one of the list.
use Rattle.std.proofs.Common.{◌<◌, length, None, IfSome, subst}
use Rattle.base_rows.specs.declared.marks.Link.{Link}
use Rattle.base_rows.proofs.FurtherBack.{link_in}
use Rattle.base_rows.proofs.skips.first_below.Goals as goal

pub onward-next-requires-clause-leads : goal.onward-next-requires-clause-leads
onward-next-requires-clause-leads c =
    let none : Link = record { row = 0; older = None; skip = None; depth = 0 } in
    let there : c.in-Some.place < length c.args.links.now = subst (λ n. IfSome n (λ p. p < length c.args.links.now)) c.in-Some.is
    c.loop-next.invariant.there in
    link_in c.args.links.now c.in-Some.place none there c.requires.linked

use Rattle.std.proofs.Common.{◌≡◌, ◌<◌, None, sym, rules}
use Rattle.label_book.proofs.Newest.{holder_none, holder_last}
use Rattle.label_book.proofs.held.version_at.Goals as goal

-- there was no change yet
pub returns-in-0 : goal.returns-in-0
returns-in-0 c = λ l e.
    let none : c.count_below.result ≡ 0 = search rules in
    sym (holder_none l e c.args.rows c.count_below.result c.args.moves.now c.count_below.ensures.within
    c.count_below.ensures.below none)

-- the last change before
pub returns-in_default : goal.returns-in_default
returns-in_default c = λ l e.
    let some : 0 < c.count_below.result = search rules in
    sym (holder_last l e c.args.rows c.count_below.result c.args.moves.now c.count_below.ensures.within
    c.count_below.ensures.below (record { row = 0; version = None }) some)

use Rattle.std.proofs.Common.{◌≡◌, List, true, sym, ap, ◌∙◌}
use Rattle.std.specs.Prelude.{is_none}
use Rattle.vob_replica.specs.declared.events.Identity.{Identity}
use Rattle.vob_replica.specs.Tables.{first_gap}
use Rattle.vob_replica.proofs.LogLaws.{needs-within}
use Rattle.vob_replica.proofs.WholeLaws.{covers-none}
use Rattle.vob_replica.proofs.logs.news_above.Goals as goal

-- the floor is held
pub returns-then-covers : goal.returns-then-covers
returns-then-covers c known is =
    let floor = c.args.floor.now in
    let table = c.args.table.now in
    let none : is_none (first_gap floor table) ≡ true =
    ap (λ (l : List Identity). is_none (first_gap l table)) (sym c.entries.ensures.entries) ∙ sym c.covers.ensures
    ∙ c.if-covers.true in
    c.in_ok-news_of_whole.ensures known floor is c.requires
    (λ site. needs-within floor table site (covers-none (first_gap floor table) none))

use Rattle.std.specs.Option.{option_copied}
use Rattle.spec_text.specs.Parts.{parts_left}
use Rattle.spec_text.proofs.Trying.{meets, stands, names_held_by}
use Rattle.spec_text.proofs.matching.matches_where.Goals as goal

pub search-preserved-in-AnyNames : goal.search-preserved-in-AnyNames
search-preserved-in-AnyNames c =
    let met = c.in-AnyNames.ensures in
    meets _ _ _ _ _ c.search.cards.now met.segment c.in-AnyNames.behind.now (parts_left 47 (option_copied c.search.left))
    (names_held_by c.search.again)
    met.prefix met.wild c.search.invariant

pub search-preserved-in-OneName : goal.search-preserved-in-OneName
search-preserved-in-OneName c =
    let met = c.in-OneName.ensures in
    stands _ _ _ _ _ c.search.cards.now met.segment c.in-OneName.behind.now (parts_left 47 (option_copied c.search.left)) met.name
    (parts_left 47 (option_copied c.in-OneName.rest)) (names_held_by c.search.again) met.prefix met.first met.plain met.fit
    c.search.invariant

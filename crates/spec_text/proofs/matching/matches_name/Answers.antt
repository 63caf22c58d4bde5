use Rattle.std.proofs.Common.{sym, ◌∙◌, eq-eqb}
use Rattle.std.proofs.lemmas.Bool.{ne_eqb}
use Rattle.spec_text.proofs.Trying.{meets, stands, held_by}
use Rattle.spec_text.proofs.matching.matches_name.Goals as goal

pub search-preserved-then-card-eq42 : goal.search-preserved-then-card-eq42
search-preserved-then-card-eq42 c =
    meets _ _ _ _ _ c.search.cards.now c.in-Some.card.now c.in-Some.behind.now c.search.left.now (held_by c.search.again)
    c.in-Some.ensures.cases.0 (eq-eqb _ _ c.if-card-eq42.true) c.search.invariant

pub search-preserved-then-fits_byte : goal.search-preserved-then-fits_byte
search-preserved-then-fits_byte c =
    stands _ _ _ _ _ c.search.cards.now c.in-Some.card.now c.in-Some.behind.now c.search.left.now c.in-Some-split_first.byte.now
    c.in-Some-split_first.rest.now (held_by c.search.again)
    c.in-Some.ensures.cases.0 c.in-Some-split_first.ensures.cases.0 (ne_eqb _ _ c.if-card-eq42.false) (sym c.fits_byte.ensures
    ∙ c.if-fits_byte.true) c.search.invariant

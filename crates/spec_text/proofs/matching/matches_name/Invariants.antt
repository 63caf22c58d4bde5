use Rattle.std.proofs.Common.{◌+◌, ◌*◌, length}
use Rattle.base_model.specs.ConfigSpecs.WildCards.{cards_match}
use Rattle.base_model.specs.ConfigSpecs.Patterns.{is_star, fits_byte}
use Rattle.spec_text.proofs.Trying.{Searches, held_by, tries}
use Rattle.spec_text.proofs.matching.matches_name.Given as goal

abbrev pub invariant-search : goal.invariant-search
invariant-search l =
    Searches is_star fits_byte (cards_match is_star fits_byte l.segment l.name) (length l.segment) (length l.name) l.cards l.left
    (held_by l.again)

-- how often the last star may be tried again, and then the cards that are left
abbrev pub decreases-search : goal.decreases-search
decreases-search l = tries (length l.initial.name) (held_by l.again) * (length l.initial.segment + 1) + length l.cards

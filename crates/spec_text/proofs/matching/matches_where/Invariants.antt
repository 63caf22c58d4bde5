use Rattle.std.proofs.Common.{◌+◌, ◌*◌, length}
use Rattle.std.specs.Option.{option_copied}
use Rattle.base_model.specs.ConfigSpecs.Patterns.{is_dots, fits_name, matches_where}
use Rattle.spec_text.specs.Parts.{parts_left}
use Rattle.spec_text.proofs.Trying.{Searches, names_held_by, tries}
use Rattle.spec_text.proofs.matching.matches_where.Given as goal

abbrev pub invariant-search : goal.invariant-search
invariant-search l =
    Searches is_dots fits_name (matches_where l.anchored l.segments (parts_left 47 (option_copied l.names)))
    (length l.segments) (length (parts_left 47 (option_copied l.names))) l.cards (parts_left 47 (option_copied l.left))
    (names_held_by l.again)

-- how often the last `...` may be tried again, and then the segments that are left
abbrev pub decreases-search : goal.decreases-search
decreases-search l =
    tries (length (parts_left 47 (option_copied l.initial.names))) (names_held_by l.again) * (length l.initial.segments + 1) +
    length l.cards

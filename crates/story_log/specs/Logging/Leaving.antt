-- What a failed append leaves after the rows.
use Rattle.std.specs.Prelude.{◌≡◌, Option, Some, None}
use Rattle.cc_names.specs.Formed.{Plain}
use Rattle.vob_journal.specs.declared.left.Left.{Left}
use Rattle.vob_journal.specs.declared.left.Left.TheVariants as lefts

-- the row that may be found then, by what the journal says of it: none, what an earlier fault left, or the row in flight
abbrev pub left_row : Option Plain → Plain → Left → Option Plain
left_row earlier row lefts.Nothing = None
left_row earlier row lefts.Earlier = earlier
left_row earlier row lefts.InFlight = Some row

abbrev pub LeftSo : Option Plain → Plain → Left → Option Plain → Type 0
LeftSo earlier row left found = found ≡ left_row earlier row left

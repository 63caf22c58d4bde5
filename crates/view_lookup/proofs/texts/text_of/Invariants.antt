use Rattle.std.proofs.Common.{◌≡◌, length}
use Rattle.base_model.specs.Texts.{text}
use Rattle.view_lookup.proofs.texts.text_of.Given as goal

-- the text is that of a row among fewer rows
abbrev pub invariant-loop-found : goal.invariant-loop-found
invariant-loop-found l = text l.older l.number l.path ≡ text l.rows l.row l.path

abbrev pub decreases-loop-found : goal.decreases-loop-found
decreases-loop-found l = length l.older

use Rattle.std.proofs.Common.{◌≡◌, length}
use Rattle.make_grammar.specs.Macros.{has_bad_dollar}
use Rattle.make_text.proofs.pieces.has_bad_dollar.Given as goal

abbrev pub invariant-parts : goal.invariant-parts
invariant-parts l = has_bad_dollar l.rest ≡ has_bad_dollar l.text

abbrev pub decreases-parts : goal.decreases-parts
decreases-parts l = length l.rest

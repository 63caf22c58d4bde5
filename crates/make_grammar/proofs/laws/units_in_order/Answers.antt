use Rattle.make_grammar.proofs.UnitLaws as units
use Rattle.make_grammar.proofs.laws.units_in_order.Goals as goal

pub returns : goal.returns
returns c = units.units_in_order

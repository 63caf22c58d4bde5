use Rattle.spec_text.proofs.Deciding.{picks_nothing}
use Rattle.spec_text.proofs.laws.nothing_is_picked.Goals as goal

pub returns : goal.returns
returns c = picks_nothing

use Rattle.spec_text.proofs.Deciding.{first_decides}
use Rattle.spec_text.proofs.laws.first_rule_decides.Goals as goal

pub returns : goal.returns
returns c = first_decides

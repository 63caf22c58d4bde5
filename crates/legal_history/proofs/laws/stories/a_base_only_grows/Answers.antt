use Rattle.legal_history.proofs.laws.stories.a_base_only_grows.Goals as goal
use Rattle.legal_history.specs.Stories.States.{start}
use Rattle.legal_history.proofs.Stories.Prefixes.{prefix_is_legal}
use Rattle.legal_history.proofs.Stories.Grows.{base_grows}

pub returns-clause-prefix : goal.returns-clause-prefix
returns-clause-prefix c = prefix_is_legal start

pub returns-clause-base : goal.returns-clause-base
returns-clause-base c = base_grows

use Rattle.std.proofs.Common.{[], ◌∷◌}
use Rattle.legal_history.specs.Stories.States.{start}
use Rattle.legal_history.proofs.Stories.Prefixes.{both_are_legal, rest_is_legal}
use Rattle.legal_history.proofs.laws.stories.a_story_goes_on_by_a_lawful_step.Goals as goal

pub returns-clause-on : goal.returns-clause-on
returns-clause-on c = λ story x legal e. both_are_legal start story (x ∷ []) legal (e, tt)

pub returns-clause-last : goal.returns-clause-last
returns-clause-last c = λ story x legal. (rest_is_legal start story (x ∷ []) legal).0

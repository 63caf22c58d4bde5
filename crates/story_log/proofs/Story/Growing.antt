-- A story with one more step.
use Rattle.std.proofs.Common.{◌≡◌, List, [], ◌∷◌, ◌++◌, refl}
use Rattle.cc_names.specs.declared.steps.StoryStep.{StoryStep}
use Rattle.legal_history.specs.Stories.States.{State}
use Rattle.legal_history.specs.Stories.Steps.{after, state_from}
use Rattle.legal_history.specs.Stories.Lawful.{Lawful, LegalFrom}

-- the state after one more step
pub state_from-more : (s : State) (story : List StoryStep) (x : StoryStep)
    → state_from s (story ++ x ∷ []) ≡ after (state_from s story) x
state_from-more s [] x = refl
state_from-more s (y ∷ story) x = state_from-more (after s y) story x

-- a legal story goes on by a lawful step
pub legal_more : (s : State) (story : List StoryStep) (x : StoryStep) → LegalFrom s story → Lawful (state_from s story) x
    → LegalFrom s (story ++ x ∷ [])
legal_more s [] x legal lawful = (lawful, tt)
legal_more s (y ∷ story) x legal lawful = (legal.0, legal_more (after s y) story x legal.1 lawful)

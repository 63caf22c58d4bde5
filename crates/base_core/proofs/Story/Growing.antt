-- The replies of a story with one more step.
use Rattle.std.proofs.Common.{◌≡◌, ℕ, List, [], ◌∷◌, ◌++◌, refl}
use Rattle.cc_names.specs.declared.replies.Reply.{Reply}
use Rattle.cc_names.specs.declared.steps.StoryStep.{StoryStep}
use Rattle.legal_history.specs.Stories.States.{State}
use Rattle.legal_history.specs.Stories.Steps.{after, state_from}
use Rattle.base_core.specs.Story.Replying.{replies_after, replies_from}

-- the replies after one more step
pub replies_from-more : (s : State) (replies : ℕ → List Reply) (story : List StoryStep) (x : StoryStep)
    → replies_from s replies (story ++ x ∷ []) ≡ replies_after (state_from s story) x (replies_from s replies story)
replies_from-more s replies [] x = refl
replies_from-more s replies (y ∷ story) x = replies_from-more (after s y) (replies_after s y replies) story x

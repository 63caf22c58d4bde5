use Rattle.legal_history.proofs.laws.builds.an_ended_build_has_its_outcomes_from_nothing.Goals as goal
use Rattle.legal_history.specs.Stories.Steps.{state_of}
use Rattle.legal_history.proofs.Builds.RepliesAgree.{left_outcome}
use Rattle.legal_history.proofs.Reuse.AgreedStories.{story_agrees_so_far}

pub returns : goal.returns
returns c = λ story opening x lane build n unit legal opened sound is left well of_n.
    left_outcome (state_of story) x lane build n unit (story_agrees_so_far story opening lane build legal opened sound is) left
    well of_n
